use Rattle.std.proofs.Common.{ℕ, ◌∷◌, [], length, subst, sym, ap, arith}
use Rattle.std.proofs.lemmas.List.{length-append}
use Rattle.vital_table.specs.Masks.{AreInputColumns, IsInputColumn}
use Rattle.vital_table.proofs.ColumnLemmas.{inputs_push}
use Rattle.vital_table.proofs.columns.input_columns.Goals as goal

pub loop-column-preserved : goal.loop-column-preserved
loop-column-preserved c = record {
  count = omega (arith, ap length c.in_ok-push.ensures.items, length-append c.loop-column.columns.items (c.input_column.result ∷ []), c.loop-column.invariant.count);
  are =
      subst (AreInputColumns c.args.rows.now 0) (sym c.in_ok-push.ensures.items)
      (inputs_push c.args.rows.now 0 c.loop-column.columns.items c.input_column.result c.loop-column.invariant.are
      (subst (λ (k : ℕ). IsInputColumn c.args.rows.now k c.input_column.result) (omega (arith, c.loop-column.invariant.count)) c.input_column.ensures));
}
