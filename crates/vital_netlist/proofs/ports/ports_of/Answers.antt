use Rattle.std.proofs.Common.{◌∙◌}
use Rattle.vital_netlist.proofs.PortLemmas.{ports-all}
use Rattle.vital_netlist.proofs.ports.ports_of.Goals as goal

pub returns : goal.returns
returns c =
    c.new.ensures
    ∙ ports-all c.args.netlist.now.files c.args.netlist.now.instances c.objects-object-items.result.now c.loop-object.object-index c.loop-object.ports.items
    c.objects-object-items.ensures c.loop-object-test.false c.loop-object.invariant
