use Rattle.std.proofs.Common.{arith, refl}
use Rattle.vital_names.specs.FirstNames.{first_in}
use Rattle.vital_uses.specs.NamesAt.{lent_name}
use Rattle.vital_variables.specs.SecondUses.{is_elsewhere}
use Rattle.vital_nodes.proofs.Lists.{map_filter-seen, turn-behind}
use Rattle.vital_variables.proofs.UseLemmas.{use_at, use_at-is}
use Rattle.vital_variables.proofs.second_uses.put_second.Goals as goal

pub loop-one-preserved : goal.loop-one-preserved
loop-one-preserved c =
    let uses = c.args.uses.now in
    let i = c.loop-one.one-index in
    turn-behind _ _ _ _ _ _ _ c.in_ok-put_if_second.ensures c.loop-one.invariant refl
    (map_filter-seen lent_name (λ u. is_elsewhere u.place (first_in c.args.firsts.now u.name)) (λ u. u.place) uses i (use_at uses i) (omega arith) (use_at-is uses i (omega arith)))
