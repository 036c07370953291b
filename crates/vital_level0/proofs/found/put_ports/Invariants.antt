use Rattle.std.proofs.Common.{◌≡◌, ◌++◌, take}
use Rattle.std.specs.List.{flat_map}
use Rattle.vital_level0.specs.Found.{of_port}
use Rattle.vital_level0.proofs.found.put_ports.Given as goal

abbrev pub invariant-loop-port : goal.invariant-loop-port
invariant-loop-port l = l.found.items ≡ l.initial.found.items ++ flat_map of_port (take l.port-index l.ports)
