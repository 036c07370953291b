use Rattle.std.proofs.Common.{◌≡◌, [], take}
use Rattle.std.specs.Prelude.{None}
use Rattle.std.specs.List.{fold}
use Rattle.vital_library.specs.Constants as constants
use Rattle.vital_objects.specs.PackageValues.{with_next}
use Rattle.vital_objects.proofs.package_value.package_values.Given as goal

abbrev pub invariant-loop-object : goal.invariant-loop-object
invariant-loop-object l = (l.known.items, l.begun) ≡ fold (with_next l.library) ([], None) (constants.lent (take l.object-index l.object-items))
