use Rattle.std.proofs.Common.{◌≤◌, length}
use Rattle.vital_ll.proofs.Listings.{StepsFrom}
use Rattle.vital_ll.proofs.listing.steps_backward.Given as goal

abbrev pub invariant-loop-rule : goal.invariant-loop-rule
invariant-loop-rule l = (l.rule ≤ length l.rules) × StepsFrom l.rules l.rule l.steps.items

abbrev pub decreases-loop-rule : goal.decreases-loop-rule
decreases-loop-rule l = l.rule
