use Rattle.vital_nodes.specs.declared.expr.Expr.{Expr}
use Rattle.vital_expr.specs.Reading.{Reading}
use Rattle.vital_expr.specs.Readings.{reading}
use Rattle.vital_expr.specs.Seen.{lent}
use Rattle.vital_expr.proofs.Lists.{places-more, tree-more}
use Rattle.vital_expr.proofs.booleans.+booleans.Goals as goal

pub booleans-loop-operand-preserved : goal.booleans-loop-operand-preserved
booleans-loop-operand-preserved t c = record {
  trees = tree-more (λ (r : Reading). r.boolean) (λ (e : Expr). reading (lent c.args.reader.now) e) c.args.operands.now c.loop-operand.operand-index c.operand-item.result c.loop-operand.booleans c.put.new.self c.in_ok-boolean.boolean c.loop-operand-test.true c.operand-item.is c.loop-operand.invariant.trees c.in_ok-boolean.ensures.tree c.in_ok-put.ensures;
  places = places-more (λ (r : Reading). r.boolean) (λ (e : Expr). reading (lent c.args.reader.now) e) c.args.operands.now c.loop-operand.operand-index c.operand-item.result c.args.broken.now.items c.loop-operand.broken.items c.boolean.new.broken.items c.loop-operand-test.true c.operand-item.is c.loop-operand.invariant.places c.in_ok-boolean.ensures.places;
}
