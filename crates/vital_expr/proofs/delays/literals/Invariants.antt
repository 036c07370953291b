use Rattle.std.proofs.Common.{◌≡◌, ◌++◌, take}
use Rattle.vital_expr.specs.Reading.{literals_of}
use Rattle.vital_expr.specs.Seen.{lent}
use Rattle.vital_expr.specs.Steps as steps
use Rattle.vital_expr.proofs.delays.literals.Given as goal

abbrev pub invariant-loop-item : goal.invariant-loop-item
invariant-loop-item l = record {
  trees : l.times ≡ (literals_of (steps.item_readings (lent l.reader) (take l.item-index l.items))).tree;
  places : l.broken.items ≡ l.initial.broken.items ++ (literals_of (steps.item_readings (lent l.reader) (take l.item-index l.items))).places;
}
