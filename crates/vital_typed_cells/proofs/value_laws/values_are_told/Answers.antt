use Rattle.vital_typed_declarations.specs.Asked.{of_port}
use Rattle.vital_typed_cells.proofs.ToldValues.{generic-told, value-told}
use Rattle.vital_typed_cells.proofs.value_laws.values_are_told.Goals as goal

pub returns-clause-values : goal.returns-clause-values
returns-clause-values x c a o none = value-told c a o none

pub returns-clause-generics : goal.returns-clause-generics
returns-clause-generics x c i none = generic-told c i none

pub returns-clause-ports : goal.returns-clause-ports
returns-clause-ports x c i none = value-told c (of_port i) i.parts.default none
