use Rattle.std.proofs.Common.{◌∙◌, ap}
use Rattle.vital_cell.specs.Scopes.{lent}
use Rattle.vital_cell.proofs.StandLemmas.{stands-constant}
use Rattle.vital_typed_cells.specs.Expressions.{level_of}
use Rattle.vital_cell.proofs.numbered_levels.constant.Goals as goal

pub returns : goal.returns
returns c = stands-constant (lent c.args.scope.now) c.level_of.result c.args.name.now (c.level_of.ensures ∙ ap level_of c.worth.ensures)
