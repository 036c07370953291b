use Rattle.std.proofs.Common.{◌≡◌, ◌++◌}
use Rattle.vital_ll.specs.Listing.{steps_of}
use Rattle.vital_ll.proofs.listing.push_steps.Given as goal

abbrev pub invariant-loop-alternative : goal.invariant-loop-alternative
invariant-loop-alternative l = l.steps.items ≡ l.initial.steps.items ++ steps_of l.rule l.alternative
