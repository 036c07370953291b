use Rattle.std.proofs.Common.{◌≡◌, take}
use Rattle.std.specs.BTreeSet.{contains}
use Rattle.std.specs.Ordering.{nat_cmp}
use Rattle.vital_level1.specs.Packages.{places_where}
use Rattle.vital_level1.proofs.package_names.names_among.Given as goal

abbrev pub invariant-loop-one : goal.invariant-loop-one
invariant-loop-one l = l.places.items ≡ places_where (λ n. contains nat_cmp l.numbers n) (take l.one-index l.named)
