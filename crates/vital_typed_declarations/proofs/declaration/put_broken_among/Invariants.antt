use Rattle.std.proofs.Common.{◌≡◌, ◌++◌, map, take}
use Rattle.std.specs.List.{flat_map}
use Rattle.vital_typed_declarations.specs.Declarations as spec
use Rattle.vital_typed_declarations.specs.Declarations.{lent_sited}
use Rattle.vital_typed_declarations.proofs.declaration.put_broken_among.Given as goal

abbrev pub invariant-loop-declaration : goal.invariant-loop-declaration
invariant-loop-declaration l = l.broken.items ≡ l.initial.broken.items ++ flat_map (spec.broken_at l.names l.faults) (map lent_sited (take l.declaration-index l.declarations))
