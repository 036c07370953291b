use Rattle.std.proofs.Common.{ℕ, [], ◌∷◌, ◌++◌, map, ap, sym, ◌∙◌, arith}
use Rattle.std.specs.List.{range_with_len}
use Rattle.std.proofs.lemmas.List.FromFn.{map-range_with_len_more}
use Rattle.vital_logic.specs.declared.level.Level.{Level}
use Rattle.vital_logic.specs.declared.level.Level.TheVariants.{X}
use Rattle.vital_table.specs.Results.{result_at}
use Rattle.vital_typed_cells.proofs.truth_table.results_of_row.Goals as goal

pub loop-number-preserved : goal.loop-number-preserved
loop-number-preserved c =
    let give : ℕ → Level = λ number. result_at c.args.masks.now c.args.row number X in
    let n = c.loop-number.number in
    c.in_ok-push.ensures.items
    ∙ ap (λ ls. ls ++ c.result_at.result ∷ []) c.loop-number.invariant
    ∙ ap (λ l. map give (range_with_len 0 n) ++ l ∷ []) c.result_at.ensures
    ∙ sym (map-range_with_len_more give 0 n n (omega arith))
