use Rattle.vital_netlist.proofs.WiringLemmas.{wires-turn}
use Rattle.vital_netlist.proofs.wiring.signals_of_bits.Goals as goal

pub loop-object-preserved : goal.loop-object-preserved
loop-object-preserved c =
    wires-turn c.args.netlist.now.files c.args.netlist.now.instances c.args.instance c.loop-object.object c.zero.result
    c.loop-object.found.items c.put_wire.new.found.items
    c.zero.ensures c.loop-object.invariant c.in_ok-put_wire.ensures
