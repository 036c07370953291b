use Rattle.vital_nodes.specs.Nodes.{Item}
use Rattle.vital_typed_cells.proofs.Nodes.{known-by, name-there}
use Rattle.vital_typed_cells.proofs.Actuals.{item-sound, target-sound}
use Rattle.vital_typed_cells.proofs.actual_laws.read_actuals_are_sound.Goals as goal

pub returns-clause-actuals : goal.returns-clause-actuals
returns-clause-actuals a s c f i scope names tables = item-sound s c f i scope (known-by s.names c (Item i) names tables)

pub returns-clause-targets : goal.returns-clause-targets
returns-clause-targets a s c r scope names = target-sound s c r scope (name-there s.names c.position r names)
