use Rattle.std.proofs.Common.{length, ◌∙◌}
use Rattle.vital_cell.specs.Scopes.{lent}
use Rattle.vital_cell.proofs.VectorLemmas.{vector-fitted}
use Rattle.vital_cell.proofs.slots.put_default.Goals as goal

pub returns : goal.returns
returns c = c.put_vector.ensures ∙ vector-fitted (lent c.args.scope.now) c.in_ok-tree.tree c.args.tree.now (length c.args.levels.now) c.requires.none c.in_ok-tree.ensures c.requires.sound
