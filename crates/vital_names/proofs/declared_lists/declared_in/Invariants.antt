use Rattle.std.proofs.Common.{◌≡◌, map, take}
use Rattle.vital_names.specs.Declarations.{declared_in, lent}
use Rattle.vital_names.proofs.declared_lists.declared_in.Given as goal

abbrev pub invariant-loop-declaration : goal.invariant-loop-declaration
invariant-loop-declaration l = map lent l.declared.items ≡ declared_in (take l.declaration-index l.declarations)
