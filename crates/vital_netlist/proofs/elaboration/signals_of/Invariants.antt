use Rattle.std.proofs.Common.{◌≡◌, map, take}
use Rattle.std.specs.List.{filter_map}
use Rattle.vital_netlist.specs.Designs.{lent_signal}
use Rattle.vital_netlist.specs.Elaboration.{design_signal}
use Rattle.vital_netlist.proofs.elaboration.signals_of.Given as goal

abbrev pub invariant-loop-bit : goal.invariant-loop-bit
invariant-loop-bit l =
    map lent_signal l.found.items ≡ filter_map (design_signal l.netlist.files l.netlist.instances) (take l.bit-index l.bit-items)
