use Rattle.std.proofs.Common.{arith, refl}
use Rattle.vital_uses.specs.Reads.{is_read}
use Rattle.vital_nodes.specs.Seen.{seen}
use Rattle.vital_nodes.proofs.Lists.{filter-seen, turn-behind}
use Rattle.vital_uses.proofs.reads.put_read.Goals as goal

pub loop-node-preserved : goal.loop-node-preserved
loop-node-preserved c =
    turn-behind _ _ _ _ _ _ _ c.in_ok-put_if_read.ensures c.loop-node.invariant refl
    (filter-seen seen is_read c.args.all.now c.loop-node.node-index c.node-item.result (omega arith) c.node-item.is)
