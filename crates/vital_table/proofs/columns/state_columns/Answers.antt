use Rattle.std.proofs.Common.{ℕ, ◌∷◌, [], length, subst, sym, ap, arith}
use Rattle.std.proofs.lemmas.List.{length-append}
use Rattle.vital_table.specs.Masks.{AreStateColumns, IsStateColumn}
use Rattle.vital_table.proofs.ColumnLemmas.{states_push}
use Rattle.vital_table.proofs.columns.state_columns.Goals as goal

pub loop-number-preserved : goal.loop-number-preserved
loop-number-preserved c = record {
  count = omega (arith, ap length c.in_ok-push.ensures.items, length-append c.loop-number.columns.items (c.state_column.result ∷ []), c.loop-number.invariant.count);
  are =
      subst (AreStateColumns c.args.rows.now c.args.first) (sym c.in_ok-push.ensures.items)
      (states_push c.args.rows.now c.args.first c.loop-number.columns.items c.state_column.result c.loop-number.invariant.are
      (subst (λ (k : ℕ). IsStateColumn c.args.rows.now k c.state_column.result) (omega (arith, c.loop-number.invariant.count)) c.state_column.ensures));
}
