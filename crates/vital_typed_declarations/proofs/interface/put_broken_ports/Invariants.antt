use Rattle.std.proofs.Common.{◌≡◌, ◌++◌, map, take}
use Rattle.std.specs.List.{flat_map}
use Rattle.vital_typed_declarations.specs.Declarations as spec
use Rattle.vital_typed_declarations.specs.Declarations.{lent_sited}
use Rattle.vital_typed_declarations.proofs.interface.put_broken_ports.Given as goal

abbrev pub invariant-loop-port : goal.invariant-loop-port
invariant-loop-port l = l.broken.items ≡ l.initial.broken.items ++ flat_map (spec.broken_port l.names l.faults) (map lent_sited (take l.port-index l.ports))
