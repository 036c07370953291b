use Rattle.std.proofs.Common.{◌≡◌, map, take}
use Rattle.vital_kernel.specs.DesignNetworks.{driver_count}
use Rattle.vital_kernel.proofs.counts.driver_counts.Given as goal

abbrev pub invariant-loop-cell : goal.invariant-loop-cell
invariant-loop-cell l = l.counts.items ≡ map driver_count (take l.cell-index l.cells)
