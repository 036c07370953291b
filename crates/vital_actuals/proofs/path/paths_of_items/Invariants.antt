use Rattle.std.proofs.Common.{◌≡◌, ◌++◌, map, take}
use Rattle.vital_actuals.specs.Paths.{path_of_item}
use Rattle.vital_expr.specs.Outcomes.{all_typed}
use Rattle.vital_expr.specs.Seen.{lent}
use Rattle.vital_actuals.proofs.path.paths_of_items.Given as goal

abbrev pub invariant-loop-item : goal.invariant-loop-item
invariant-loop-item l = record {
  tree : l.paths ≡ (all_typed (map (path_of_item (lent l.reader) l.asked) (take l.item-index l.items))).tree;
  places : l.broken.items ≡ l.initial.broken.items ++ (all_typed (map (path_of_item (lent l.reader) l.asked) (take l.item-index l.items))).places;
}
