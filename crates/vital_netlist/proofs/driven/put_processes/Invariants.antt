use Rattle.std.proofs.Common.{◌≡◌, ◌++◌, take}
use Rattle.std.specs.List.{filter_map, flat_map}
use Rattle.vital_typed_cells.specs.Bits.{number_of}
use Rattle.vital_netlist.specs.CellDrivers.{driven_by}
use Rattle.vital_netlist.proofs.driven.put_processes.Given as goal

abbrev pub invariant-loop-process : goal.invariant-loop-process
invariant-loop-process l = l.driven.items ≡ l.initial.driven.items ++ filter_map (number_of l.bits) (flat_map driven_by (take l.process-index l.processes))
