use Rattle.std.proofs.Common.{map, take}
use Rattle.vital_cell.specs.Compiled.{ArePut}
use Rattle.vital_cell.specs.Execution.{Process'}
use Rattle.vital_cell.specs.Scopes.{lent}
use Rattle.vital_cell.proofs.processes.Processes.put_cell_processes.Given as goal

abbrev pub invariant-loop-process : goal.invariant-loop-process
invariant-loop-process l = ArePut (lent l.scope) (map (λ p. Process' p) (take l.process-index l.processes)) l.fn.self l.self
