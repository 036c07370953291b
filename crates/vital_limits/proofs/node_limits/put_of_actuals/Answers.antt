use Rattle.std.proofs.Common.{refl, arith}
use Rattle.vital_limits.specs.NodeLimits.{limits_of_actual}
use Rattle.vital_nodes.proofs.Lists.{flat_map-one, turn-behind}
use Rattle.vital_limits.proofs.node_limits.put_of_actuals.Goals as goal

pub loop-item-preserved : goal.loop-item-preserved
loop-item-preserved c =
    turn-behind _ _ _ _ _ _ _ c.in_ok-put_of_actual.ensures c.loop-item.invariant refl
    (flat_map-one limits_of_actual c.args.items.now c.loop-item.item-index c.item-item.result (omega arith) c.item-item.is)
