use Rattle.std.proofs.Common.{◌≡◌}
use Rattle.vital_netlist.specs.Wiring.{wires}
use Rattle.vital_netlist.proofs.wiring.signals_of_bits.Given as goal

abbrev pub invariant-loop-object : goal.invariant-loop-object
invariant-loop-object l = l.found.items ≡ wires l.netlist.files l.netlist.instances l.instance l.object
