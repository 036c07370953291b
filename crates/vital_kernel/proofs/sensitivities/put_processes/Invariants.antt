use Rattle.std.proofs.Common.{◌≡◌, ◌++◌, map, take}
use Rattle.vital_kernel.proofs.SensitivityLemmas.{of_process}
use Rattle.vital_kernel.proofs.sensitivities.put_processes.Given as goal

abbrev pub invariant-loop-process : goal.invariant-loop-process
invariant-loop-process l = l.all.items ≡ l.initial.all.items ++ map (of_process l.wires) (take l.process-index l.processes)
