use Rattle.std.proofs.Common.{[], ◌∷◌, ap}
use Rattle.vital_typed_cells.specs.Processes.{process}
use Rattle.vital_nodes.proofs.Lists.{map-take, turn}
use Rattle.vital_typed_cells.proofs.process.read_processes.Goals as goal

pub loop-process-preserved : goal.loop-process-preserved
loop-process-preserved c =
    turn _ _ _ _ _ _ c.in_ok-push.ensures.items c.loop-process.invariant (ap (λ p. p ∷ []) c.in_ok-read_process.ensures)
    (map-take (process c.args.reader.now.names.now c.args.reader.now.faults.now) c.args.processes.now c.loop-process.process-index c.process-item.result c.loop-process-test.true c.process-item.is)
