use Rattle.std.proofs.Common.{◌≡◌, ◌++◌, map, take}
use Rattle.vital_expr.specs.Outcomes.{all_typed}
use Rattle.vital_expr.specs.Readings.{boolean_of}
use Rattle.vital_expr.specs.Seen.{lent}
use Rattle.vital_typed_statements.proofs.statement.read_conditions.Given as goal

abbrev pub invariant-loop-branch : goal.invariant-loop-branch
invariant-loop-branch l = record {
  tree : l.conditions ≡ (all_typed (map (λ b. boolean_of (lent l.reader) b.condition) (take l.branch-index l.branches))).tree;
  places : l.broken.items ≡ l.initial.broken.items ++ (all_typed (map (λ b. boolean_of (lent l.reader) b.condition) (take l.branch-index l.branches))).places;
}
