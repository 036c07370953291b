use Rattle.std.proofs.Common.{refl, arith}
use Rattle.vital_objects.specs.Signals.{signal}
use Rattle.vital_nodes.proofs.Lists.{filter_map-one, turn}
use Rattle.vital_objects.proofs.signal.read_signals.Goals as goal

pub loop-declaration-preserved : goal.loop-declaration-preserved
loop-declaration-preserved c =
    turn _ _ _ _ _ _ c.in_ok-put_signal.ensures c.loop-declaration.invariant refl
    (filter_map-one signal c.own_declarations-declaration-items.result.now c.loop-declaration.declaration-index c.declaration-item.result (omega arith) c.declaration-item.is)
