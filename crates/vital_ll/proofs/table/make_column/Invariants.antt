use Rattle.std.proofs.Common.{◌≤◌, length}
use Rattle.vital_ll.specs.Expansion.{AreLonger}
use Rattle.vital_ll.specs.Table.{IsColumnFrom}
use Rattle.vital_ll.proofs.table.make_column.Given as goal

abbrev pub invariant-loop-rule : goal.invariant-loop-rule
invariant-loop-rule l = record {
  below : l.rule ≤ length l.rows;
  kept : AreLonger l.initial.expansions l.expansions;
  column : IsColumnFrom l.rules l.bit l.expansions l.rule l.column.items;
}

abbrev pub decreases-loop-rule : goal.decreases-loop-rule
decreases-loop-rule l = l.rule
