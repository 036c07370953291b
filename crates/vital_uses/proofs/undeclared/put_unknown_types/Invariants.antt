use Rattle.std.proofs.Common.{◌≡◌, map, take, ◌++◌}
use Rattle.vital_uses.specs.Undeclared.{unknown_types}
use Rattle.vital_uses.proofs.undeclared.put_unknown_types.Given as goal

abbrev pub invariant-loop-name : goal.invariant-loop-name
invariant-loop-name l = l.places.items ≡ l.initial.places.items ++ unknown_types (map (λ y. y.now) (take l.name-index l.types))
