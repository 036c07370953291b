use Rattle.std.proofs.Common.{◌≡◌, ◌++◌, map, take}
use Rattle.vital_cell.proofs.known.put_names.Given as goal

abbrev pub invariant-loop-constant : goal.invariant-loop-constant
invariant-loop-constant l = map (λ name. name.now) l.names.items ≡ map (λ name. name.now) l.fn.names.items ++ map (λ x. x.name) (take l.constant-index l.constants)
