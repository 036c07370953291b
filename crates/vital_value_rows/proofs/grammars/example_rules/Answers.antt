use Rattle.std.proofs.Common.{refl, sym, subst}
use Rattle.vital_ll.specs.Choice.{IsWellFormed, IsFirstConflict}
use Rattle.vital_ll.specs.Example.{example, example_masks, example_ranks}
use Rattle.vital_value_rows.proofs.grammars.example_rules.Goals as goal

pub make-requires : goal.make-requires
make-requires c = subst (λ g. IsWellFormed g) (sym c.in_ok-grammar.ensures) (c.ranks_derive.ensures example example_ranks refl)

pub unreachable-requires : goal.unreachable-requires
unreachable-requires c =
    let conflict : IsFirstConflict c.in_ok-grammar.grammar c.in-Err-NotPredictive.field-0-0 = rw c.in-Err-NotPredictive.field-0-is at c.in-Err-NotPredictive.ensures.conflict in
    let here = subst (λ g. IsFirstConflict g c.in-Err-NotPredictive.field-0-0) c.in_ok-grammar.ensures conflict in
    c.masks_decide.ensures example example_masks refl refl c.in-Err-NotPredictive.field-0-0 here.meets
