use Rattle.std.proofs.Common.{ℕ, ◌<◌}
use Rattle.vital_ll.specs.Marks.{IsTurn}
use Rattle.vital_ll.proofs.marks.sweep.Given as goal

abbrev pub invariant-loop-item : goal.invariant-loop-item
invariant-loop-item g l =
    IsTurn (g.P.Pass.reason l.pass) (λ m. (k : ℕ) → k < l.item → g.P.Pass.settled l.pass m k) l.initial.masks l.masks l.changed
