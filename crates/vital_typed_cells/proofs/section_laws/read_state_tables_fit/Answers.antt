use Rattle.vital_typed_cells.proofs.SectionGiven.{call-in}
use Rattle.vital_typed_cells.proofs.StateTables.{state-table-sound}
use Rattle.vital_typed_cells.proofs.section_laws.read_state_tables_fit.Goals as goal

pub returns : goal.returns
returns a s k b scope names tables go = state-table-sound s k b (call-in s k scope names tables) go
