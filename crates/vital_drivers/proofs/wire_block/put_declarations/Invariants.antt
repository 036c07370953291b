use Rattle.std.proofs.Common.{◌≡◌, ◌++◌, map, take}
use Rattle.vital_nodes.specs.Places.{identifier_of_decl}
use Rattle.vital_drivers.proofs.wire_block.put_declarations.Given as goal

abbrev pub invariant-loop-declaration : goal.invariant-loop-declaration
invariant-loop-declaration l = l.places.items ≡ l.initial.places.items ++ map (λ d. (identifier_of_decl d).place) (take l.declaration-index l.declarations)
