use Rattle.std.proofs.Common.{◌≡◌, ◌+◌, ◌*◌, ◌≤◌, length, take}
use Rattle.std.specs.Prelude.{All}
use Rattle.std.specs.List.{fold}
use Rattle.vital_machine.specs.Fits.{EndsInTime, HaveTimes}
use Rattle.vital_machine.specs.Machine.{delay_step, state_of}
use Rattle.vital_machine.proofs.executed.delay_all.Given as goal

abbrev pub invariant-loop-step : goal.invariant-loop-step
invariant-loop-step l = record {
  done : state_of l.slots l.effects ≡ fold (delay_step l.inputs l.now) (state_of l.initial.slots l.initial.effects) (take l.step-index l.steps);
  room : l.effects.room ≡ l.initial.effects.room;
  listed : length l.effects.listed ≤ length l.initial.effects.listed + 3 * l.step-index;
  times : HaveTimes l.now l.slots;
  ends : All (EndsInTime l.now) l.effects.listed;
}
