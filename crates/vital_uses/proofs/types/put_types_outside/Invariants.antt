use Rattle.std.proofs.Common.{◌≡◌, map, take, ◌++◌}
use Rattle.std.specs.List.{flat_map}
use Rattle.vital_uses.specs.Nodes.{types_outside}
use Rattle.vital_uses.proofs.types.put_types_outside.Given as goal

abbrev pub invariant-loop-conc : goal.invariant-loop-conc
invariant-loop-conc l = map (λ y. y.now) l.types.items ≡ map (λ y. y.now) l.initial.types.items ++ flat_map types_outside (map (λ y. y.now) (take l.conc-index l.statements))
