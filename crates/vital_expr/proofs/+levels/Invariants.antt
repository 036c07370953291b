use Rattle.std.proofs.Common.{◌≡◌, ◌++◌, take}
use Rattle.vital_expr.specs.Reading.{levels_of}
use Rattle.vital_expr.specs.Seen.{lent}
use Rattle.vital_expr.specs.Steps as steps
use Rattle.vital_expr.proofs.+levels.Given as goal

abbrev pub invariant-levels::levels-loop-operand : goal.invariant-levels::levels-loop-operand
invariant-levels::levels-loop-operand l = record {
  trees : l.levels ≡ (levels_of (steps.readings (lent l.reader) (take l.operand-index l.operands))).tree;
  places : l.broken.items ≡ l.initial.broken.items ++ (levels_of (steps.readings (lent l.reader) (take l.operand-index l.operands))).places;
}

abbrev pub invariant-levels::levels_of_items-loop-item : goal.invariant-levels::levels_of_items-loop-item
invariant-levels::levels_of_items-loop-item l = record {
  trees : l.levels ≡ (levels_of (steps.item_readings (lent l.reader) (take l.item-index l.items))).tree;
  places : l.broken.items ≡ l.initial.broken.items ++ (levels_of (steps.item_readings (lent l.reader) (take l.item-index l.items))).places;
}
