use Rattle.std.proofs.Common.{◌≡◌, ◌++◌, take}
use Rattle.std.specs.List.{flat_map}
use Rattle.vital_limits.specs.CellLimits.{limits_of_process}
use Rattle.vital_limits.proofs.cell.put_of_processes.Given as goal

abbrev pub invariant-loop-process : goal.invariant-loop-process
invariant-loop-process l = l.limits.items ≡ l.initial.limits.items ++ flat_map (limits_of_process l.constants) (take l.process-index l.processes)
