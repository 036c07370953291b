use Rattle.std.proofs.Common.{map, take}
use Rattle.vital_cell.specs.Compiled.{ArePut}
use Rattle.vital_cell.specs.Execution.{Wire}
use Rattle.vital_cell.specs.Scopes.{lent}
use Rattle.vital_cell.proofs.processes.Processes.put_wires.Given as goal

abbrev pub invariant-loop-wire : goal.invariant-loop-wire
invariant-loop-wire l = ArePut (lent l.scope) (map (λ w. Wire w) (take l.wire-index l.wires)) l.fn.self l.self
