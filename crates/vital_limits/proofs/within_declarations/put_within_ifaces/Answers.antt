use Rattle.std.proofs.Common.{arith}
use Rattle.vital_nodes.specs.Nodes.{Interface}
use Rattle.vital_limits.proofs.WithinLemmas.{node-put}
use Rattle.vital_limits.proofs.within_declarations.put_within_ifaces.Goals as goal

pub loop-iface-preserved : goal.loop-iface-preserved
loop-iface-preserved c =
    node-put (λ x. Interface x) _ _ _ c.args.ifaces.now c.loop-iface.iface-index c.iface-item.result c.in_ok-put_within_iface.ensures c.loop-iface.invariant (omega arith) c.iface-item.is
