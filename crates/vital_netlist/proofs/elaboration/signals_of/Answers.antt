use Rattle.vital_netlist.proofs.PartLemmas.{signal-turn}
use Rattle.vital_netlist.proofs.elaboration.signals_of.Goals as goal

pub loop-bit-preserved : goal.loop-bit-preserved
loop-bit-preserved c =
    signal-turn c.args.netlist.now.files c.args.netlist.now.instances c.bits-bit-items.result.now c.loop-bit.bit-index c.bit-item.result
    c.loop-bit.found.items c.put_signal.new.found.items
    c.loop-bit-test.true c.bit-item.is c.loop-bit.invariant c.in_ok-put_signal.ensures
