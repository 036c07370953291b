use Rattle.std.proofs.Common.{◌≡◌, ◌++◌, take}
use Rattle.vital_netlist.specs.Wiring.{drivers, objects_of}
use Rattle.vital_netlist.proofs.wiring.put_drivers.Given as goal

abbrev pub invariant-loop-number : goal.invariant-loop-number
invariant-loop-number l =
    l.drivers.items ≡ l.initial.drivers.items ++ drivers (objects_of l.netlist l.instance) l.wires (take l.number-index l.number-items)
