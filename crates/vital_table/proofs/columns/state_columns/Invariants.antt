use Rattle.std.proofs.Common.{◌≡◌, length}
use Rattle.vital_table.specs.Masks.{AreStateColumns}
use Rattle.vital_table.proofs.columns.state_columns.Given as goal

abbrev pub invariant-loop-number : goal.invariant-loop-number
invariant-loop-number l = record {
  count : length l.columns.items ≡ l.number;
  are : AreStateColumns l.rows l.first l.columns.items;
}
