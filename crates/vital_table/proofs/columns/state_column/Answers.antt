use Rattle.vital_table.proofs.ColumnLemmas.{state_column_is}
use Rattle.vital_table.proofs.columns.state_column.Goals as goal

pub returns : goal.returns
returns c = state_column_is c.args.rows.now c.args.column _ (record { x = c.state_mask-x.ensures; zero = c.state_mask-zero.ensures; one = c.state_mask-one.ensures })
