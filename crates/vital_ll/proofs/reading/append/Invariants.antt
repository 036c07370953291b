use Rattle.std.proofs.Common.{◌≡◌, ◌++◌, take}
use Rattle.vital_ll.proofs.reading.append.Given as goal

abbrev pub invariant-loop-step : goal.invariant-loop-step
invariant-loop-step l = l.steps.items ≡ l.initial.steps.items ++ take l.step-index l.more
