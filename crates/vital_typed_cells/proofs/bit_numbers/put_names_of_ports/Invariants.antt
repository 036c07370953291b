use Rattle.std.proofs.Common.{◌≡◌, ◌++◌, map, take}
use Rattle.vital_typed_cells.proofs.bit_numbers.put_names_of_ports.Given as goal

abbrev pub invariant-loop-port : goal.invariant-loop-port
invariant-loop-port l = map (λ n. n.now) l.names.items ≡ map (λ n. n.now) l.initial.names.items ++ map (λ p. p.name) (take l.port-index l.ports)
