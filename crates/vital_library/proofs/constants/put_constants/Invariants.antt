use Rattle.std.proofs.Common.{◌≡◌, ◌++◌, take}
use Rattle.std.specs.List.{filter_map}
use Rattle.vital_library.specs.Constants.{as_constant, lent}
use Rattle.vital_library.proofs.constants.put_constants.Given as goal

abbrev pub invariant-loop-declaration : goal.invariant-loop-declaration
invariant-loop-declaration l = lent l.constants.items ≡ lent l.initial.constants.items ++ filter_map as_constant (take l.declaration-index l.declarations)
