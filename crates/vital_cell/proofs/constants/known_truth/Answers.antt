use Rattle.std.proofs.Common.{◌∙◌}
use Rattle.vital_cell.specs.Scopes.{lent}
use Rattle.vital_cell.proofs.ValueLemmas.{truth-known}
use Rattle.vital_cell.proofs.constants.known_truth.Goals as goal

pub returns : goal.returns
returns c = c.truth.ensures ∙ truth-known (lent c.args.scope.now) c.in_ok-tree.tree c.args.tree.now c.requires.none c.in_ok-tree.ensures
