use Rattle.vital_typed_cells.proofs.ToldActuals.{item-told, target-told}
use Rattle.vital_typed_cells.proofs.actual_laws.actuals_are_told.Goals as goal

pub returns-clause-actuals : goal.returns-clause-actuals
returns-clause-actuals a c f i none = item-told c f i none

pub returns-clause-targets : goal.returns-clause-targets
returns-clause-targets a c r none = target-told c r none
