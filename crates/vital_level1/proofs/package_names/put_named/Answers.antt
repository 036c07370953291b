use Rattle.std.proofs.Common.{refl, arith}
use Rattle.vital_level1.specs.Packages.{named_by}
use Rattle.vital_uses.specs.Asked.{lent_asked}
use Rattle.vital_nodes.proofs.Lists.{filter_map-seen, turn-behind}
use Rattle.vital_level1.proofs.package_names.put_named.Goals as goal

pub loop-one-preserved : goal.loop-one-preserved
loop-one-preserved c =
    turn-behind _ _ _ _ _ _ _ c.in_ok-put_if_named.ensures c.loop-one.invariant refl
    (filter_map-seen lent_asked (named_by) c.args.asked.now c.loop-one.one-index c.one-item.result (omega arith) c.one-item.is)
