use Rattle.std.proofs.Common.{◌≡◌, ◌+◌, length, sum_by, take}
use Rattle.vital_kernel.proofs.counts.with_path_delays.Given as goal

abbrev pub invariant-loop-process : goal.invariant-loop-process
invariant-loop-process l = l.count ≡ l.first + sum_by (λ p. length p.sections.path_delays) (take l.process-index l.processes)
