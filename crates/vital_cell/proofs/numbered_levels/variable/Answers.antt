use Rattle.vital_cell.specs.Scopes.{lent}
use Rattle.vital_cell.proofs.StandLemmas.{stands-variable}
use Rattle.vital_cell.proofs.numbered_levels.variable.Goals as goal

pub returns : goal.returns
returns c = stands-variable (lent c.args.scope.now) c.element.result c.args.name.now c.element.ensures
