use Rattle.vital_netlist.proofs.PartLemmas.{instance-turn}
use Rattle.vital_netlist.proofs.elaboration.instances_of.Goals as goal

pub loop-number-preserved : goal.loop-number-preserved
loop-number-preserved c =
    let parts = c.args.parts.now in
    instance-turn parts.library.now parts.instances.now c.args.netlist.now parts.cells.now c.loop-number.number _
    (record { site = c.site_of.result; unit = c.name.result; cell = c.number.result }) c.loop-number.found.items c.push.new.self.items
    c.requires.netlist c.requires.cells c.loop-number-test.true c.site_of.ensures c.name.ensures c.number.ensures c.loop-number.invariant c.in_ok-push.ensures.items
