use Rattle.vital_typed_cells.proofs.Assignments.{assignment-sound}
use Rattle.vital_typed_cells.proofs.statement_laws.read_assignments_are_sound.Goals as goal

pub returns : goal.returns
returns a s c b scope target names tables = assignment-sound s c b scope target names tables
