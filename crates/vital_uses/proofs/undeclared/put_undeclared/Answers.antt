use Rattle.std.proofs.Common.{arith, refl}
use Rattle.std.specs.Prelude.{is_none}
use Rattle.vital_uses.specs.Asked.{lent_asked}
use Rattle.vital_nodes.proofs.Lists.{map_filter-seen, turn-behind}
use Rattle.vital_uses.proofs.undeclared.put_undeclared.Goals as goal

pub loop-one-preserved : goal.loop-one-preserved
loop-one-preserved c =
    turn-behind _ _ _ _ _ _ _ c.in_ok-put_if_undeclared.ensures c.loop-one.invariant refl
    (map_filter-seen lent_asked (λ a. is_none a.meaning) (λ a. a.identifier.place) c.args.asked.now c.loop-one.one-index c.one-item.result (omega arith) c.one-item.is)
