use Rattle.std.proofs.Common.{◌≡◌, map, take}
use Rattle.vital_uses.proofs.cell_uses.processes.Given as goal

abbrev pub invariant-loop-process : goal.invariant-loop-process
invariant-loop-process l = l.all.items ≡ map (λ p. (l.names, p)) (take l.process-index l.processes)
