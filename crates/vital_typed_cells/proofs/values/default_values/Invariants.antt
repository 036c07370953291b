use Rattle.std.proofs.Common.{◌≡◌, map, take}
use Rattle.vital_typed_cells.proofs.values.default_values.Given as goal

abbrev pub invariant-loop-generic : goal.invariant-loop-generic
invariant-loop-generic l = l.values.items ≡ map (λ g. g.default) (take l.generic-index l.checked.generics)
