use Rattle.std.proofs.Common.{take}
use Rattle.vital_cell.specs.Scopes.{lent}
use Rattle.vital_cell.specs.StandsFor.{AreTruths}
use Rattle.vital_cell.proofs.numbered_truths.+numbered_truths.Given as goal

abbrev pub invariant-numbered_operands-loop-tree : goal.invariant-numbered_operands-loop-tree
invariant-numbered_operands-loop-tree l = AreTruths (lent l.scope) l.numbered.items (take l.tree-index l.trees)
