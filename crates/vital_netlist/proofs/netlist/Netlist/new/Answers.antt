use Rattle.vital_netlist.proofs.ChildLemmas.{of_ports}
use Rattle.vital_netlist.proofs.netlist.Netlist.new.Goals as goal

pub units_of-requires-clause-good : goal.units_of-requires-clause-good
units_of-requires-clause-good c =
    let law = c.instances_are_good.ensures in
    let files = c.args.parts.now.library.now in
    let is = c.args.parts.now.instances.now in record {
      units = law.units files is c.requires.entered;
      cells = law.cells files is c.requires.entered;
      contents = law.contents files is c.requires.entered;
      all = law.all files is c.requires.entered;
    }

pub connections_of-requires-clause-good : goal.connections_of-requires-clause-good
connections_of-requires-clause-good c =
    let law = c.instances_are_good.ensures in
    let files = c.args.parts.now.library.now in
    let is = c.args.parts.now.instances.now in record {
      units = law.units files is c.requires.entered;
      cells = law.cells files is c.requires.entered;
      contents = law.contents files is c.requires.entered;
      all = law.all files is c.requires.entered;
    }

pub invariant_of-result : goal.invariant_of-result
invariant_of-result c =
    let law = c.instances_are_good.ensures in
    let files = c.args.parts.now.library.now in
    let is = c.args.parts.now.instances.now in record {
      has_units = c.in_ok-units.ensures;
      has_connections = c.in_ok-connections.ensures;
      there = law.units files is c.requires.entered;
      behind = law.parents files is c.requires.entered;
      children = law.children files is c.requires.entered;
      ports = of_ports c.associations_are_apart.ensures.ports files;
    }
