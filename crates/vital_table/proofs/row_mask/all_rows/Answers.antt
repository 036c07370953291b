use Rattle.vital_table.proofs.RowMasks.{all_mask, none_mask}
use Rattle.vital_table.proofs.row_mask.all_rows.Goals as goal

pub returns-then-count-eq0 : goal.returns-then-count-eq0
returns-then-count-eq0 c = none_mask c.args.rows.now c.if-count-eq0.true

pub returns-else-count-eq0 : goal.returns-else-count-eq0
returns-else-count-eq0 c = all_mask c.args.rows.now c.requires
