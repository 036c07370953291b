use Rattle.std.proofs.Common.{refl, arith}
use Rattle.vital_package_constants.specs.Breaches.{fault_at}
use Rattle.vital_nodes.proofs.Lists.{filter_map-seen, turn}
use Rattle.vital_nodes.specs.Seen.{seen}
use Rattle.vital_package_constants.proofs.breaches.faults_in.Goals as goal

pub loop-node-preserved : goal.loop-node-preserved
loop-node-preserved c =
    turn _ _ _ _ _ _ c.in_ok-put_fault_at.ensures c.loop-node.invariant refl
    (filter_map-seen seen (fault_at c.args.library.now c.args.known.now) c.args.nodes.now c.loop-node.node-index c.node-item.result (omega arith) c.node-item.is)
