use Rattle.std.proofs.Common.{◌++◌, ◌∷◌, [], take, sym, ap, ◌∙◌, arith}
use Rattle.std.proofs.lemmas.List.{take_more}
use Rattle.vital_table.proofs.mask_table.copies.Goals as goal

pub loop-row-preserved : goal.loop-row-preserved
loop-row-preserved c =
    c.in_ok-push.ensures.items
    ∙ ap (λ rows. rows ++ c.in_ok-copy.copy ∷ []) c.loop-row.invariant
    ∙ ap (λ row. take c.loop-row.row-index c.args.rows.now ++ row ∷ []) (c.in_ok-copy.ensures ∙ c.as_slice.ensures ∙ c.row-item.is)
    ∙ sym (take_more c.args.rows.now c.loop-row.row-index c.row-item.result (omega arith))
