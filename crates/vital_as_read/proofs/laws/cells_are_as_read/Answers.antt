use Rattle.vital_as_read.proofs.Cells.{cell_as_read}
use Rattle.vital_as_read.proofs.laws.cells_are_as_read.Goals as goal

pub returns : goal.returns
returns c cell read of =
    cell_as_read cell (λ k f inside. let from = read k f inside in c.units_are_as_read.ensures from.0 _ from.1 from.2 _ from.3) of
