use Rattle.std.proofs.Common.{ℕ, ◌≤◌, take}
use Rattle.vital_ll.specs.Table.{AreBelow}
use Rattle.vital_ll.proofs.width.width_of.Given as goal

abbrev pub invariant-loop-step : goal.invariant-loop-step
invariant-loop-step l =
    (l.width ≤ 65536) × AreBelow l.rules (take l.step-index l.steps) l.width × ((n : ℕ) → AreBelow l.rules l.steps n → l.width ≤ n)
