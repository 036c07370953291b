use Rattle.std.proofs.Common.{ap, arith}
use Rattle.vital_statements.specs.Clauses.{others_than_checks}
use Rattle.vital_statements.proofs.CheckLemmas.{others-take}
use Rattle.vital_nodes.proofs.Lists.{turn-behind}
use Rattle.vital_statements.proofs.timing_check.put_statements_in_if.Goals as goal

pub loop-branch-preserved : goal.loop-branch-preserved
loop-branch-preserved c =
    turn-behind _ _ _ _ _ _ _ c.in_ok-put_others.ensures c.loop-branch.invariant
    (ap (others_than_checks c.args.names.now c.args.process.now) c.as_slice.ensures)
    (others-take c.args.names.now c.args.process.now _ c.loop-branch.branch-index c.branch-item.result (omega arith) c.branch-item.is)
