use Rattle.vital_ll.specs.Marks.{IsSaturated, unmarked}
use Rattle.vital_ll.proofs.marks.saturate.Given as goal

abbrev pub invariant-loop : goal.invariant-loop
invariant-loop g l = IsSaturated (g.P.Pass.reason l.pass) (λ m. Unit {0}) l.initial.masks l.masks

abbrev pub decreases-loop : goal.decreases-loop
decreases-loop g l = unmarked l.masks
