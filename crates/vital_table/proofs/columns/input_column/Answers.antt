use Rattle.vital_table.proofs.ColumnLemmas.{input_column_is}
use Rattle.vital_table.proofs.columns.input_column.Goals as goal

pub returns : goal.returns
returns c = input_column_is c.args.rows.now c.args.column _ c.masks_from-from_x.ensures c.masks_from-from_zero.ensures c.masks_from-from_one.ensures
