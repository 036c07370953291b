use Rattle.std.proofs.Common.{sym, subst}
use Rattle.vital_ll.specs.Choice.{IsWellFormed, IsFirstConflict}
use Rattle.vital_sdf_grammar.specs.Grammar.{grammar}
use Rattle.vital_sdf_grammar.specs.Tables.{masks, ranks}
use Rattle.vital_sdf_grammar.proofs.Predictive.{masks_closed, masks_apart, ranks_lower}
use Rattle.vital_sdf_grammar.proofs.table.sdf_rules.Goals as goal

pub make-requires : goal.make-requires
make-requires c = subst (λ g. IsWellFormed g) (sym c.in_ok-grammar.ensures) (c.ranks_derive.ensures grammar ranks ranks_lower)

pub unreachable-requires : goal.unreachable-requires
unreachable-requires c =
    let conflict : IsFirstConflict c.in_ok-grammar.grammar c.in-Err-NotPredictive.field-0-0 = rw c.in-Err-NotPredictive.field-0-is at c.in-Err-NotPredictive.ensures.conflict in
    let here = subst (λ g. IsFirstConflict g c.in-Err-NotPredictive.field-0-0) c.in_ok-grammar.ensures conflict in
    c.masks_decide.ensures grammar masks masks_closed masks_apart c.in-Err-NotPredictive.field-0-0 here.meets
