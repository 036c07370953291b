use Rattle.vital_nodes.specs.declared.expr.Item.{Item}
use Rattle.vital_expr.specs.Reading.{Reading}
use Rattle.vital_expr.specs.Seen.{lent}
use Rattle.vital_expr.specs.Steps.{item_reading}
use Rattle.vital_expr.proofs.Lists.{places-more, tree-more}
use Rattle.vital_expr.proofs.delays.literals.Goals as goal

pub loop-item-preserved : goal.loop-item-preserved
loop-item-preserved c = record {
  trees = tree-more (λ (r : Reading). r.literal) (λ (i : Item). item_reading (lent c.args.reader.now) i) c.args.items.now c.loop-item.item-index c.item-item.result c.loop-item.times c.put.new.self c.in_ok-time.time c.loop-item-test.true c.item-item.is c.loop-item.invariant.trees c.in_ok-time.ensures.tree c.in_ok-put.ensures;
  places = places-more (λ (r : Reading). r.literal) (λ (i : Item). item_reading (lent c.args.reader.now) i) c.args.items.now c.loop-item.item-index c.item-item.result c.args.broken.now.items c.loop-item.broken.items c.literal_of_item.new.broken.items c.loop-item-test.true c.item-item.is c.loop-item.invariant.places c.in_ok-time.ensures.places;
}
