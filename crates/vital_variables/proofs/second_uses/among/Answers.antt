use Rattle.std.proofs.Common.{arith, refl}
use Rattle.std.specs.Prelude.{is_some}
use Rattle.vital_names.specs.FirstNames.{first_in}
use Rattle.vital_uses.specs.NamesAt.{lent_name}
use Rattle.vital_nodes.proofs.Lists.{filter-seen, turn}
use Rattle.vital_variables.proofs.UseLemmas.{use_at, use_at-is}
use Rattle.vital_variables.proofs.second_uses.among.Goals as goal

pub loop-one-preserved : goal.loop-one-preserved
loop-one-preserved c =
    let uses = c.args.uses.now in
    let i = c.loop-one.one-index in
    turn _ _ _ _ _ _ c.in_ok-put_if_among.ensures c.loop-one.invariant refl
    (filter-seen lent_name (λ u. is_some (first_in c.args.names.now u.name)) uses i (use_at uses i) (omega arith) (use_at-is uses i (omega arith)))
