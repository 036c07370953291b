use Rattle.vital_nodes.specs.declared.expr.Expr.{Expr}
use Rattle.vital_nodes.specs.declared.expr.Item.{Item}
use Rattle.vital_expr.specs.Reading.{Reading}
use Rattle.vital_expr.specs.Readings.{reading}
use Rattle.vital_expr.specs.Seen.{lent}
use Rattle.vital_expr.specs.Steps.{item_reading}
use Rattle.vital_expr.proofs.Lists.{places-more, tree-more}
use Rattle.vital_expr.proofs.+levels.Goals as goal

pub levels::levels-loop-operand-preserved : goal.levels::levels-loop-operand-preserved
levels::levels-loop-operand-preserved t c = record {
  trees = tree-more (λ (r : Reading). r.level) (λ (e : Expr). reading (lent c.args.reader.now) e) c.args.operands.now c.loop-operand.operand-index c.operand-item.result c.loop-operand.levels c.put.new.self c.in_ok-level.level c.loop-operand-test.true c.operand-item.is c.loop-operand.invariant.trees c.in_ok-level.ensures.tree c.in_ok-put.ensures;
  places = places-more (λ (r : Reading). r.level) (λ (e : Expr). reading (lent c.args.reader.now) e) c.args.operands.now c.loop-operand.operand-index c.operand-item.result c.args.broken.now.items c.loop-operand.broken.items c.level.new.broken.items c.loop-operand-test.true c.operand-item.is c.loop-operand.invariant.places c.in_ok-level.ensures.places;
}

pub levels::levels_of_items-loop-item-preserved : goal.levels::levels_of_items-loop-item-preserved
levels::levels_of_items-loop-item-preserved t c = record {
  trees = tree-more (λ (r : Reading). r.level) (λ (i : Item). item_reading (lent c.args.reader.now) i) c.args.items.now c.loop-item.item-index c.item-item.result c.loop-item.levels c.put.new.self c.in_ok-level.level c.loop-item-test.true c.item-item.is c.loop-item.invariant.trees c.in_ok-level.ensures.tree c.in_ok-put.ensures;
  places = places-more (λ (r : Reading). r.level) (λ (i : Item). item_reading (lent c.args.reader.now) i) c.args.items.now c.loop-item.item-index c.item-item.result c.args.broken.now.items c.loop-item.broken.items c.level_of_item.new.broken.items c.loop-item-test.true c.item-item.is c.loop-item.invariant.places c.in_ok-level.ensures.places;
}
