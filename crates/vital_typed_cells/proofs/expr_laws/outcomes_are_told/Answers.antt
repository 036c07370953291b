use Rattle.vital_typed_cells.proofs.ToldNodes.{expression-told}
use Rattle.vital_typed_cells.proofs.expr_laws.outcomes_are_told.Goals as goal

pub returns-clause-levels : goal.returns-clause-levels
returns-clause-levels a c e none = (expression-told c e none).level

pub returns-clause-vectors : goal.returns-clause-vectors
returns-clause-vectors a c e asked none = (expression-told c e none).vector asked

pub returns-clause-booleans : goal.returns-clause-booleans
returns-clause-booleans a c e none = (expression-told c e none).boolean

pub returns-clause-times : goal.returns-clause-times
returns-clause-times a c e none = (expression-told c e none).time

pub returns-clause-delays : goal.returns-clause-delays
returns-clause-delays a c d e none = (expression-told c e none).delay d

pub returns-clause-texts : goal.returns-clause-texts
returns-clause-texts a c e none = (expression-told c e none).text
