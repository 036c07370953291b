use Rattle.vital_typed_cells.proofs.CellNames.{cell-law, process-law}
use Rattle.vital_typed_cells.proofs.cell_laws.names_differ.Goals as goal

pub returns-clause-cell : goal.returns-clause-cell
returns-clause-cell c cell read none = cell-law cell read none

pub returns-clause-processes : goal.returns-clause-processes
returns-clause-processes c cell read none = process-law cell read none
