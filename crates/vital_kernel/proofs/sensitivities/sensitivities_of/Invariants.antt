use Rattle.std.proofs.Common.{◌≡◌, map, take}
use Rattle.std.specs.List.{flat_map}
use Rattle.vital_kernel.specs.Sensitivities.{sensitivities_of}
use Rattle.vital_kernel.specs.Networks.{lent_cell}
use Rattle.vital_kernel.proofs.sensitivities.sensitivities_of.Given as goal

abbrev pub invariant-loop-cell : goal.invariant-loop-cell
invariant-loop-cell l = l.all.items ≡ flat_map sensitivities_of (map lent_cell (take l.cell-index l.cells))
