use Rattle.std.proofs.Common.{arith, refl}
use Rattle.std.specs.List.{filter_map}
use Rattle.vital_variables.specs.Given.{given_by}
use Rattle.vital_nodes.proofs.Lists.{filter_map-one, put-said, turn-behind}
use Rattle.vital_variables.proofs.given.put_given.Goals as goal

pub loop-item-preserved : goal.loop-item-preserved
loop-item-preserved c =
    turn-behind _ _ _ _ _ _ _ (put-said _ _ _ _ c.in_ok-put_if_there.ensures c.given_by.ensures) c.loop-item.invariant refl
    (filter_map-one (given_by c.args.formals c.args.procedure) c.args.items.now c.loop-item.item-index c.item-item.result (omega arith) c.item-item.is)
