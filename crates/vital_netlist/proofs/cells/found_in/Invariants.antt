use Rattle.std.proofs.Common.{take}
use Rattle.vital_netlist.specs.Cells.{HasCells}
use Rattle.vital_netlist.proofs.cells.found_in.Given as goal

abbrev pub invariant-loop-instance : goal.invariant-loop-instance
invariant-loop-instance l = HasCells l.library (take l.instance-index l.instances) l.found.cells.items l.found.numbers.items
