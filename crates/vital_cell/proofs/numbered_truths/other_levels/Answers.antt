use Rattle.vital_cell.specs.Scopes.{lent}
use Rattle.vital_cell.proofs.StandLemmas.{levels-other}
use Rattle.vital_cell.proofs.numbered_truths.other_levels.Goals as goal

pub returns : goal.returns
returns c = levels-other (lent c.args.scope.now) c.in_ok-left.left c.in_ok-right.right c.args.left.now c.args.right.now c.in_ok-left.ensures c.in_ok-right.ensures
