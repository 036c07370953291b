use Rattle.std.proofs.Common.{◌≡◌, take}
use Rattle.vital_typed_cells.proofs.worths.levels_of_packages.Given as goal

abbrev pub invariant-loop-number : goal.invariant-loop-number
invariant-loop-number l = l.known ≡ take l.number l.values
