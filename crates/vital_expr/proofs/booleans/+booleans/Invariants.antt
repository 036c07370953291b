use Rattle.std.proofs.Common.{◌≡◌, ◌++◌, take}
use Rattle.vital_expr.specs.Reading.{booleans_of}
use Rattle.vital_expr.specs.Seen.{lent}
use Rattle.vital_expr.specs.Steps as steps
use Rattle.vital_expr.proofs.booleans.+booleans.Given as goal

abbrev pub invariant-booleans-loop-operand : goal.invariant-booleans-loop-operand
invariant-booleans-loop-operand l = record {
  trees : l.booleans ≡ (booleans_of (steps.readings (lent l.reader) (take l.operand-index l.operands))).tree;
  places : l.broken.items ≡ l.initial.broken.items ++ (booleans_of (steps.readings (lent l.reader) (take l.operand-index l.operands))).places;
}
