use Rattle.std.proofs.Common.{◌≡◌, map, take}
use Rattle.vital_netlist.specs.Designs.{lent_instance}
use Rattle.vital_netlist.specs.Elaboration.{design_instance}
use Rattle.vital_netlist.proofs.elaboration.instances_of.Given as goal

abbrev pub invariant-loop-number : goal.invariant-loop-number
invariant-loop-number l =
    map lent_instance l.found.items ≡ map (design_instance l.parts.library.now l.parts.instances.now) (take l.number l.parts.instances.now)
