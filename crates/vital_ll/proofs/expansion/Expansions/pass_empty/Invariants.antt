use Rattle.std.proofs.Common.{◌≡◌, length}
use Rattle.std.specs.List.{All}
use Rattle.vital_ll.specs.Choice.{IsNamed}
use Rattle.vital_ll.specs.Expansion.{IsPassed}
use Rattle.vital_ll.proofs.expansion.Expansions.pass_empty.Given as goal

abbrev pub invariant-loop-expansion : goal.invariant-loop-expansion
invariant-loop-expansion l = record {
  named : All (IsNamed (length l.column)) l.left;
  symbols : l.self.symbols.items ≡ l.initial.self.symbols.items;
  passed : IsPassed l.initial.self l.self l.column l.symbols l.left;
}

abbrev pub decreases-loop-expansion : goal.decreases-loop-expansion
decreases-loop-expansion l = length l.left
