use Rattle.std.proofs.Common.{◌≡◌, ◌+◌, ◌≤◌, length, take}
use Rattle.std.specs.List.{fold}
use Rattle.vital_machine.specs.Fits.{HaveTimes}
use Rattle.vital_machine.specs.Machine.{check_step, state_of}
use Rattle.vital_machine.proofs.executed.check_all.Given as goal

abbrev pub invariant-loop-step : goal.invariant-loop-step
invariant-loop-step l = record {
  done : state_of l.slots l.effects ≡ fold (check_step l.inputs l.now) (state_of l.initial.slots l.initial.effects) (take l.step-index l.steps);
  room : l.effects.room ≡ l.initial.effects.room;
  listed : length l.effects.listed ≤ length l.initial.effects.listed + l.step-index;
  times : HaveTimes l.now l.slots;
}
