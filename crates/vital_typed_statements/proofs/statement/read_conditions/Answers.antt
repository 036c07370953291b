use Rattle.vital_actuals.proofs.Turns.{places_next, tree_next}
use Rattle.vital_expr.specs.Outcomes.{Outcome}
use Rattle.vital_expr.specs.Readings.{boolean_of}
use Rattle.vital_expr.specs.Seen.{lent}
use Rattle.vital_nodes.specs.declared.stmt.Branch.{Branch}
use Rattle.vital_operands.specs.declared.tree.BooleanExpr.{BooleanExpr}
use Rattle.vital_typed_statements.proofs.statement.read_conditions.Goals as goal

pub loop-branch-preserved : goal.loop-branch-preserved
loop-branch-preserved c =
    let read : Branch → Outcome BooleanExpr = λ b. boolean_of (lent c.args.reader.now) b.condition in
    record {
      tree = tree_next read c.args.branches.now c.loop-branch.branch-index c.branch-item.result c.loop-branch.conditions c.put.new.self c.in_ok-condition.condition c.loop-branch-test.true c.branch-item.is c.loop-branch.invariant.tree c.in_ok-condition.ensures.tree c.in_ok-put.ensures;
      places = places_next read c.args.branches.now c.loop-branch.branch-index c.branch-item.result c.args.broken.now.items c.loop-branch.broken.items c.boolean.new.broken.items c.loop-branch-test.true c.branch-item.is c.loop-branch.invariant.places c.in_ok-condition.ensures.places;
    }
