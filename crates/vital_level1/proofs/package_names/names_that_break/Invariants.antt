use Rattle.std.proofs.Common.{◌≡◌, take}
use Rattle.vital_level1.specs.Packages.{breaks, places_where}
use Rattle.vital_level1.proofs.package_names.names_that_break.Given as goal

abbrev pub invariant-loop-one : goal.invariant-loop-one
invariant-loop-one l = l.places.items ≡ places_where (breaks l.clause l.breaches) (take l.one-index l.named)
