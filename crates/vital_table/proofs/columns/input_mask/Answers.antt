use Rattle.std.proofs.Common.{ℕ, ap, ◌∙◌, arith}
use Rattle.std.specs.Prelude.{slice_index}
use Rattle.vital_table.specs.Matches.{input_matches}
use Rattle.vital_table.proofs.RowMasks.{mask_turn}
use Rattle.vital_table.proofs.columns.input_mask.Goals as goal

pub loop-number-preserved : goal.loop-number-preserved
loop-number-preserved c =
    c.with_row-mask.ensures
    ∙ mask_turn (λ row. input_matches (slice_index row c.args.column) c.args.old c.args.new) c.args.rows.now c.loop-number.number c.index-rows-number.result c.input_matches.result c.loop-number.mask
    (omega arith) c.index-rows-number.is
    (c.input_matches.ensures ∙ ap (λ (s : ℕ). input_matches s c.args.old c.args.new) c.symbol_at-symbol.ensures)
    c.loop-number.invariant
