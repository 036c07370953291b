use Rattle.std.proofs.Common.{refl, arith}
use Rattle.vital_drivers.specs.PathDelays.{path_delays_in}
use Rattle.vital_nodes.proofs.Lists.{flat_map-seen, turn}
use Rattle.vital_drivers.proofs.path_delay.path_delays.Goals as goal

pub loop-conc-preserved : goal.loop-conc-preserved
loop-conc-preserved c =
    turn _ _ _ _ _ _ c.in_ok-put_path_delays.ensures c.loop-conc.invariant refl
    (flat_map-seen (λ b. b.now) (path_delays_in c.args.names.now) _ c.loop-conc.conc-index c.conc-item.result (omega arith) c.conc-item.is)
