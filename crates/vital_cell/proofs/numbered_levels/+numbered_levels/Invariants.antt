use Rattle.std.proofs.Common.{take}
use Rattle.vital_cell.specs.Scopes.{lent}
use Rattle.vital_cell.specs.StandsFor.{AreLevels}
use Rattle.vital_cell.proofs.numbered_levels.+numbered_levels.Given as goal

abbrev pub invariant-numbered_levels-loop-tree : goal.invariant-numbered_levels-loop-tree
invariant-numbered_levels-loop-tree l = AreLevels (lent l.scope) l.numbered.items (take l.tree-index l.trees)
