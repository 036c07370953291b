use Rattle.std.proofs.Common.{◌≡◌, map, take}
use Rattle.std.specs.List.{flat_map}
use Rattle.vital_connections.specs.Objects.{lent}
use Rattle.vital_netlist.specs.Ports.{bits_in}
use Rattle.vital_netlist.proofs.ports.ports_of.Given as goal

abbrev pub invariant-loop-object : goal.invariant-loop-object
invariant-loop-object l = l.ports.items ≡ flat_map bits_in (map lent (take l.object-index l.object-items))
