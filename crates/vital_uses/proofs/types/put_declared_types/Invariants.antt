use Rattle.std.proofs.Common.{◌≡◌, map, take, ◌++◌}
use Rattle.std.specs.List.{filter_map}
use Rattle.vital_uses.specs.Parts.{type_of_decl}
use Rattle.vital_uses.proofs.types.put_declared_types.Given as goal

abbrev pub invariant-loop-declaration : goal.invariant-loop-declaration
invariant-loop-declaration l = map (λ y. y.now) l.types.items ≡ map (λ y. y.now) l.initial.types.items ++ filter_map type_of_decl (take l.declaration-index l.declarations)
