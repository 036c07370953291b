use Rattle.std.proofs.Common.{◌≡◌, ◌+◌, drop}
use Rattle.vital_associations.specs.Items.{leading}
use Rattle.vital_associations.proofs.given.leading.Given as goal

abbrev pub invariant-loop-position : goal.invariant-loop-position
invariant-loop-position l = leading l.items ≡ l.position + leading (drop l.position l.items)
