use Rattle.std.proofs.Common.{ap, [], ◌∷◌}
use Rattle.vital_nodes.proofs.Lists.{map-take, turn}
use Rattle.vital_uses.proofs.cell_uses.processes.Goals as goal

pub loop-process-preserved : goal.loop-process-preserved
loop-process-preserved c =
    turn _ _ _ _ _ _ c.in_ok-push.ensures.items c.loop-process.invariant (ap (λ u. u ∷ []) c.in_ok-new.ensures)
    (map-take (λ p. (c.args.names.now, p)) c.args.processes.now c.loop-process.process-index c.process-item.result c.loop-process-test.true c.process-item.is)
