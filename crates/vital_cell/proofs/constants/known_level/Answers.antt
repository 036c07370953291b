use Rattle.std.proofs.Common.{◌∙◌}
use Rattle.vital_cell.specs.Scopes.{lent}
use Rattle.vital_cell.proofs.ValueLemmas.{level-known}
use Rattle.vital_cell.proofs.constants.known_level.Goals as goal

pub returns : goal.returns
returns c = c.level.ensures ∙ level-known (lent c.args.scope.now) c.in_ok-tree.tree c.args.tree.now c.requires.none c.in_ok-tree.ensures
