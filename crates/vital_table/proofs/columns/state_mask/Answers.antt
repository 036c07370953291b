use Rattle.std.proofs.Common.{ℕ, ap, ◌∙◌, arith}
use Rattle.std.specs.Prelude.{slice_index}
use Rattle.vital_table.specs.Matches.{level_matches}
use Rattle.vital_table.proofs.RowMasks.{mask_turn}
use Rattle.vital_table.proofs.columns.state_mask.Goals as goal

pub loop-number-preserved : goal.loop-number-preserved
loop-number-preserved c =
    c.with_row-mask.ensures
    ∙ mask_turn (λ row. level_matches (slice_index row c.args.column) c.args.level) c.args.rows.now c.loop-number.number c.index-rows-number.result c.level_matches.result c.loop-number.mask
    (omega arith) c.index-rows-number.is
    (c.level_matches.ensures ∙ ap (λ (s : ℕ). level_matches s c.args.level) c.symbol_at-symbol.ensures)
    c.loop-number.invariant
