use Rattle.std.proofs.Common.{refl, arith}
use Rattle.vital_call_clauses.specs.Clauses as spec
use Rattle.vital_uses.specs.Sited.{lent_node}
use Rattle.vital_nodes.proofs.Lists.{flat_map-seen, turn-behind}
use Rattle.vital_call_clauses.proofs.clauses.put_wrong_nodes.Goals as goal

pub loop-node-preserved : goal.loop-node-preserved
loop-node-preserved c =
    turn-behind _ _ _ _ _ _ _ c.in_ok-put_wrong_node.ensures c.loop-node.invariant refl
    (flat_map-seen lent_node (spec.wrong_node c.args.names.now) c.args.nodes.now c.loop-node.node-index c.node-item.result (omega arith) c.node-item.is)
