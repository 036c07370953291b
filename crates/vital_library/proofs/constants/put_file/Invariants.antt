use Rattle.std.proofs.Common.{◌≡◌, ◌++◌, take}
use Rattle.std.specs.List.{flat_map}
use Rattle.vital_library.specs.Constants.{constants_in, lent}
use Rattle.vital_library.proofs.constants.put_file.Given as goal

abbrev pub invariant-loop-unit : goal.invariant-loop-unit
invariant-loop-unit l = lent l.constants.items ≡ lent l.initial.constants.items ++ flat_map constants_in (take l.unit-index l.units)
