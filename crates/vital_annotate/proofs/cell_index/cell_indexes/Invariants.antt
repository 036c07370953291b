use Rattle.std.proofs.Common.{◌≡◌, take}
use Rattle.vital_annotate.proofs.cell_index.cell_indexes.Given as goal

abbrev pub invariant-loop-cell : goal.invariant-loop-cell
invariant-loop-cell l = l.indexes.items ≡ take l.cell-index l.cells
