use Rattle.vital_cell.specs.Scopes.{lent}
use Rattle.vital_cell.proofs.StandLemmas.{levels-same}
use Rattle.vital_cell.proofs.numbered_truths.same_levels.Goals as goal

pub returns : goal.returns
returns c = levels-same (lent c.args.scope.now) c.in_ok-left.left c.in_ok-right.right c.args.left.now c.args.right.now c.in_ok-left.ensures c.in_ok-right.ensures
