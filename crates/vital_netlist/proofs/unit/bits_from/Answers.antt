use Rattle.std.proofs.Common.{arith}
use Rattle.vital_netlist.proofs.DesignBitLemmas.{bits_turn}
use Rattle.vital_netlist.proofs.unit.bits_from.Goals as goal
use Rattle.vital_nodes.proofs.Lists.{turn}

pub loop-number-preserved : goal.loop-number-preserved
loop-number-preserved c =
    turn _ _ _ _ _ _ c.in_ok-put_run.ensures c.loop-number.invariant c.in_ok-whole_run.ensures
    (bits_turn c.args.first c.loop-number.number c.args.objects.now c.index-objects-number.result (omega arith) c.index-objects-number.is)
