use Rattle.std.proofs.Common.{◌≡◌, map, take}
use Rattle.vital_typed_cells.specs.Processes.{process}
use Rattle.vital_typed_cells.proofs.process.read_processes.Given as goal

abbrev pub invariant-loop-process : goal.invariant-loop-process
invariant-loop-process l = l.found.items ≡ map (process l.reader.names.now l.reader.faults.now) (take l.process-index l.processes)
