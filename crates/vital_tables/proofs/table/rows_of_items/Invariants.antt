use Rattle.std.proofs.Common.{◌≡◌, take, map}
use Rattle.std.specs.Prelude.{Some}
use Rattle.vital_declaration_clauses.specs.Scopes.{lent}
use Rattle.vital_operands.specs.Items.{all_some}
use Rattle.vital_tables.specs.Tables.{row_of}
use Rattle.vital_tables.proofs.table.rows_of_items.Given as goal

abbrev pub invariant-loop-item : goal.invariant-loop-item
invariant-loop-item l = all_some (map (row_of (lent l.scope)) (take l.item-index l.items)) ≡ Some l.rows.items
