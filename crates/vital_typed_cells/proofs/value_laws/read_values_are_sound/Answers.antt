use Rattle.vital_typed_declarations.specs.Asked.{of_port}
use Rattle.vital_typed_cells.proofs.SoundValues.{value-sound}
use Rattle.vital_typed_cells.proofs.Words.{generic-sound}
use Rattle.vital_typed_cells.proofs.value_laws.read_values_are_sound.Goals as goal

pub returns-clause-values : goal.returns-clause-values
returns-clause-values x s c a o names tables = value-sound s c a o names tables

pub returns-clause-generics : goal.returns-clause-generics
returns-clause-generics x s c i names tables = generic-sound s c i names tables

pub returns-clause-ports : goal.returns-clause-ports
returns-clause-ports x s c i names tables = value-sound s c (of_port i) i.parts.default names tables
