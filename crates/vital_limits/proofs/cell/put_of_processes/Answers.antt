use Rattle.std.proofs.Common.{refl, arith}
use Rattle.vital_limits.specs.CellLimits.{limits_of_process}
use Rattle.vital_nodes.proofs.Lists.{flat_map-one, turn-behind}
use Rattle.vital_limits.proofs.cell.put_of_processes.Goals as goal

pub loop-process-preserved : goal.loop-process-preserved
loop-process-preserved c =
    turn-behind _ _ _ _ _ _ _ c.in_ok-put_of_process.ensures c.loop-process.invariant refl
    (flat_map-one (limits_of_process c.args.constants.now) c.args.processes.now c.loop-process.process-index c.process-item.result (omega arith) c.process-item.is)
