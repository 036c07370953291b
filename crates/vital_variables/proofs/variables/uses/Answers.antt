use Rattle.std.proofs.Common.{arith, refl}
use Rattle.std.specs.List.{filter_map}
use Rattle.vital_uses.specs.Asked.{lent_asked}
use Rattle.vital_uses.specs.NamesAt.{lent_name}
use Rattle.vital_variables.specs.Variables.{use_of}
use Rattle.vital_nodes.proofs.Lists.{filter_map-seen, put-said, turn}
use Rattle.vital_variables.proofs.variables.uses.Goals as goal

pub loop-one-preserved : goal.loop-one-preserved
loop-one-preserved c =
    turn _ _ _ _ _ _ (put-said _ _ _ _ c.in_ok-put_use.ensures c.use_of.ensures) c.loop-one.invariant refl
    (filter_map-seen lent_asked use_of c.args.asked.now c.loop-one.one-index c.one-item.result (omega arith) c.one-item.is)
