use Rattle.std.proofs.Common.{◌≡◌, length}
use Rattle.vital_instances.specs.Children.{last_behind}
use Rattle.vital_instances.proofs.child.last_behind.Given as goal

abbrev pub invariant-loop-suffix : goal.invariant-loop-suffix
invariant-loop-suffix l = last_behind l.last l.rest ≡ last_behind l.initial.last l.initial.rest

abbrev pub decreases-loop-suffix : goal.decreases-loop-suffix
decreases-loop-suffix l = length l.rest
