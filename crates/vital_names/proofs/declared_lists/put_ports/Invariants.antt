use Rattle.std.proofs.Common.{◌≡◌, ◌++◌, map, take}
use Rattle.vital_names.specs.Declarations.{Port, lent}
use Rattle.vital_names.proofs.declared_lists.put_ports.Given as goal

abbrev pub invariant-loop-port : goal.invariant-loop-port
invariant-loop-port l = map lent l.declared.items ≡ map lent l.initial.declared.items ++ map (λ i. Port i) (take l.port-index l.ports)
