use Rattle.std.proofs.Common.{arith, refl}
use Rattle.vital_uses.specs.Asked.{asked_at}
use Rattle.vital_uses.specs.Sited.{lent_node}
use Rattle.vital_nodes.proofs.Lists.{filter_map-seen, put-said, turn-behind}
use Rattle.vital_uses.proofs.asked.put_asked_at.Goals as goal

pub loop-node-preserved : goal.loop-node-preserved
loop-node-preserved c =
    turn-behind _ _ _ _ _ _ _ (put-said _ _ _ _ c.in_ok-put_asked.ensures c.asked_at.ensures) c.loop-node.invariant refl
    (filter_map-seen lent_node (asked_at c.args.names.now) c.args.nodes.now c.loop-node.node-index c.node-item.result (omega arith) c.node-item.is)
