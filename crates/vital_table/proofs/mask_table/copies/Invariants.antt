use Rattle.std.proofs.Common.{◌≡◌, take}
use Rattle.vital_table.proofs.mask_table.copies.Given as goal

abbrev pub invariant-loop-row : goal.invariant-loop-row
invariant-loop-row l = l.copies.items ≡ take l.row-index l.rows
