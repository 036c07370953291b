use Rattle.std.proofs.Common.{arith, refl}
use Rattle.vital_uses.specs.Apart.{apart_in_process}
use Rattle.vital_nodes.proofs.Lists.{flat_map-one, turn-behind}
use Rattle.vital_uses.proofs.apart.put_apart_in_processes.Goals as goal

pub loop-process-preserved : goal.loop-process-preserved
loop-process-preserved c =
    turn-behind _ _ _ _ _ _ _ c.in_ok-put_apart_in_process.ensures c.loop-process.invariant refl
    (flat_map-one apart_in_process c.args.processes.now c.loop-process.process-index c.process-item.result (omega arith) c.process-item.is)
