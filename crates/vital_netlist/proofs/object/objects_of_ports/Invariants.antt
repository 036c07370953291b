use Rattle.std.proofs.Common.{◌≡◌, map, take}
use Rattle.vital_connections.specs.Objects.{lent}
use Rattle.vital_netlist.specs.CellObjects.{object_of_port}
use Rattle.vital_netlist.proofs.object.objects_of_ports.Given as goal

abbrev pub invariant-loop-port : goal.invariant-loop-port
invariant-loop-port l = map lent l.objects.items ≡ map (object_of_port l.packages) (take l.port-index l.ports)
