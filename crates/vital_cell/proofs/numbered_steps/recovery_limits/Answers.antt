use Rattle.vital_cell.specs.Scopes.{lent}
use Rattle.vital_cell.proofs.StatementLemmas.{check-active_low}
use Rattle.vital_cell.proofs.numbered_steps.recovery_limits.Goals as goal

pub numbered_truth-requires : goal.numbered_truth-requires
numbered_truth-requires c = check-active_low (lent c.args.scope.now) c.args.check.now c.requires
