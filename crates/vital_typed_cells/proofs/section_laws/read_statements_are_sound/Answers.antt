use Rattle.vital_typed_cells.proofs.Checks.{check-sound}
use Rattle.vital_typed_cells.proofs.SectionGiven.{call-in}
use Rattle.vital_typed_cells.proofs.PathDelays.{path-delay-sound}
use Rattle.vital_typed_cells.proofs.section_laws.read_statements_are_sound.Goals as goal

pub returns-clause-checks : goal.returns-clause-checks
returns-clause-checks a s k c scope names tables = check-sound s k c (call-in s k scope names tables)

pub returns-clause-path_delays : goal.returns-clause-path_delays
returns-clause-path_delays a s k d scope names tables = path-delay-sound s k d (call-in s k scope names tables)
