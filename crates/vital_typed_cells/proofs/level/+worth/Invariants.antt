use Rattle.std.proofs.Common.{◌≡◌, map, take}
use Rattle.vital_typed_cells.specs.Expressions.{level}
use Rattle.vital_typed_cells.specs.PackageWorths.{in_packages, packages_worth}
use Rattle.vital_typed_cells.proofs.level.+worth.Given as goal

abbrev pub invariant-levels-loop-tree : goal.invariant-levels-loop-tree
invariant-levels-loop-tree l = l.found.items ≡ map (level (in_packages (packages_worth l.packages))) (take l.tree-index l.trees)
