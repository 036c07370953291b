use Rattle.std.proofs.Common.{◌≡◌, ◌++◌, map, take}
use Rattle.vital_cell.proofs.known.delays_of_generics.Given as goal

abbrev pub invariant-loop-generic : goal.invariant-loop-generic
invariant-loop-generic l = l.delays.items ≡ l.values ++ map (λ g. g.default) (take l.generic-index l.plain)
