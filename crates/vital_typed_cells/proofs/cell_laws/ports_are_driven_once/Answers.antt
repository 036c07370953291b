use Rattle.vital_typed_cells.proofs.Driven.{driven-once}
use Rattle.vital_typed_cells.proofs.cell_laws.ports_are_driven_once.Goals as goal

pub returns : goal.returns
returns t cell is = driven-once cell is
