use Rattle.std.proofs.Common.{◌≡◌, ◌++◌, map, take}
use Rattle.vital_level1.specs.declared.package_names.PackageClause.TheVariants as clause
use Rattle.vital_level1.specs.Packages.{breaks, places_where}
use Rattle.vital_level1.proofs.faults.faults.Given as goal

abbrev pub invariant-loop-breach : goal.invariant-loop-breach
invariant-loop-breach l = l.places.items ≡ places_where (breaks clause.Any l.constants) l.named ++ map (λ b. b.place) (take l.breach-index l.breaches)
