use Rattle.std.proofs.Common.{◌≡◌, ◌++◌, map, take}
use Rattle.std.specs.List.{flat_map}
use Rattle.vital_level1.specs.Forms as spec
use Rattle.vital_typed_declarations.specs.Declarations.{lent_sited}
use Rattle.vital_level1.proofs.uses.put_of_declarations.Given as goal

abbrev pub invariant-loop-declaration : goal.invariant-loop-declaration
invariant-loop-declaration l = l.uses.items ≡ l.initial.uses.items ++ flat_map (spec.uses_of_declaration l.names l.faults) (map lent_sited (take l.declaration-index l.declarations))
