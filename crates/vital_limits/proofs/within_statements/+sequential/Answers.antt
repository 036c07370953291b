use Rattle.std.proofs.lemmas.Result.{on_ok_weaker}
use Rattle.vital_nodes.specs.Nodes.{Sequential, parts_of_branch}
use Rattle.vital_limits.proofs.WithinLemmas.{node-put, parts-put, put-stmt}
use Rattle.vital_limits.proofs.within_statements.+sequential.Goals as goal

pub put_within_stmt-returns : goal.put_within_stmt-returns
put_within_stmt-returns t c =
    on_ok_weaker c.put_in_stmt.result
    (put-stmt c.walked_in_preorder.ensures c.args.stmt.now _ _ _ c.in_ok-put_of_sequential.ensures)
    c.put_in_stmt.ensures

pub put_within_stmts-loop-stmt-preserved : goal.put_within_stmts-loop-stmt-preserved
put_within_stmts-loop-stmt-preserved t c =
    node-put (λ x. Sequential x) _ _ _ c.args.stmts.now c.loop-stmt.stmt-index c.stmt-item.result c.in_ok-put_within_stmt.ensures c.loop-stmt.invariant c.loop-stmt-test.true c.stmt-item.is

pub put_in_branches-loop-branch-preserved : goal.put_in_branches-loop-branch-preserved
put_in_branches-loop-branch-preserved t c =
    parts-put parts_of_branch _ _ _ c.args.branches.now c.loop-branch.branch-index c.branch-item.result c.in_ok-put_in_branch.ensures c.loop-branch.invariant c.loop-branch-test.true c.branch-item.is
