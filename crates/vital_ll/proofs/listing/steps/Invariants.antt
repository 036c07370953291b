use Rattle.vital_ll.proofs.Listings.{StepsBelow}
use Rattle.vital_ll.proofs.listing.steps.Given as goal

abbrev pub invariant-loop-rule : goal.invariant-loop-rule
invariant-loop-rule l = StepsBelow l.rules l.rule l.steps.items
