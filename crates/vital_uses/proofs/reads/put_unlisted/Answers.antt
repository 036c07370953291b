use Rattle.std.proofs.Common.{arith, refl}
use Rattle.std.specs.Prelude.{is_some}
use Rattle.vital_names.specs.FirstNames.{first_in}
use Rattle.vital_uses.specs.Asked.{lent_asked}
use Rattle.vital_uses.specs.Reads.{is_unlisted}
use Rattle.vital_nodes.proofs.Lists.{map_filter-seen, turn-behind}
use Rattle.vital_uses.proofs.reads.put_unlisted.Goals as goal

pub loop-one-preserved : goal.loop-one-preserved
loop-one-preserved c =
    turn-behind _ _ _ _ _ _ _ c.in_ok-put_if_unlisted.ensures c.loop-one.invariant refl
    (map_filter-seen lent_asked (is_unlisted (λ name. is_some (first_in c.args.listed.now name))) (λ a. a.identifier.place) c.args.asked.now c.loop-one.one-index c.one-item.result (omega arith) c.one-item.is)
