use Rattle.vital_actuals.proofs.Turns.{places_next, tree_next}
use Rattle.vital_actuals.specs.Paths.{path_of_item}
use Rattle.vital_expr.specs.Seen.{lent}
use Rattle.vital_actuals.proofs.path.paths_of_items.Goals as goal

pub loop-item-preserved : goal.loop-item-preserved
loop-item-preserved c = record {
  tree = tree_next (path_of_item (lent c.args.reader.now) c.args.asked) c.args.items.now c.loop-item.item-index c.item-item.result c.loop-item.paths c.put.new.self c.in_ok-path.path c.loop-item-test.true c.item-item.is c.loop-item.invariant.tree c.in_ok-path.ensures.tree c.in_ok-put.ensures;
  places = places_next (path_of_item (lent c.args.reader.now) c.args.asked) c.args.items.now c.loop-item.item-index c.item-item.result c.args.broken.now.items c.loop-item.broken.items c.path_of_item.new.broken.items c.loop-item-test.true c.item-item.is c.loop-item.invariant.places c.in_ok-path.ensures.places;
}
