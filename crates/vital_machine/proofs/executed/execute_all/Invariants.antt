use Rattle.std.proofs.Common.{◌≡◌, take}
use Rattle.std.specs.List.{fold}
use Rattle.vital_machine.specs.Machine.{functional_step}
use Rattle.vital_machine.proofs.executed.execute_all.Given as goal

abbrev pub invariant-loop-step : goal.invariant-loop-step
invariant-loop-step l = l.slots ≡ fold (functional_step l.inputs) l.initial.slots (take l.step-index l.steps)
