use Rattle.std.proofs.Common.{◌≡◌, length}
use Rattle.vital_table.specs.Masks.{AreInputColumns}
use Rattle.vital_table.proofs.columns.input_columns.Given as goal

abbrev pub invariant-loop-column : goal.invariant-loop-column
invariant-loop-column l = record {
  count : length l.columns.items ≡ l.column;
  are : AreInputColumns l.rows 0 l.columns.items;
}
