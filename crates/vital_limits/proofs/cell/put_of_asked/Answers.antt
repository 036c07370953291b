use Rattle.std.proofs.Common.{refl, arith}
use Rattle.vital_limits.specs.CellLimits as spec
use Rattle.vital_uses.specs.Asked.{lent_asked}
use Rattle.vital_nodes.proofs.Lists.{flat_map-seen, turn-behind}
use Rattle.vital_limits.proofs.cell.put_of_asked.Goals as goal

pub loop-asked-preserved : goal.loop-asked-preserved
loop-asked-preserved c =
    turn-behind _ _ _ _ _ _ _ c.in_ok-put_of_name.ensures c.loop-asked.invariant refl
    (flat_map-seen lent_asked (spec.limits_of_asked c.args.constants.now) c.args.asked.now c.loop-asked.asked-index c.asked-item.result (omega arith) c.asked-item.is)
