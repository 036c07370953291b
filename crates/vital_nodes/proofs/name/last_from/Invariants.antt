use Rattle.std.proofs.Common.{◌≡◌, length}
use Rattle.vital_nodes.specs.Names.{last_from}
use Rattle.vital_nodes.proofs.name.last_from.Given as goal

abbrev pub invariant-loop-suffix : goal.invariant-loop-suffix
invariant-loop-suffix l = last_from l.last l.rest ≡ last_from l.initial.last l.initial.rest

abbrev pub decreases-loop-suffix : goal.decreases-loop-suffix
decreases-loop-suffix l = length l.rest
