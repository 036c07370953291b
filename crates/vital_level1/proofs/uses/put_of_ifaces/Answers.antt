use Rattle.std.proofs.Common.{refl, arith}
use Rattle.vital_level1.specs.Forms as spec
use Rattle.vital_typed_declarations.specs.Declarations.{lent_sited}
use Rattle.vital_nodes.proofs.Lists.{flat_map-seen, turn-behind}
use Rattle.vital_level1.proofs.uses.put_of_ifaces.Goals as goal

pub loop-iface-preserved : goal.loop-iface-preserved
loop-iface-preserved c =
    turn-behind _ _ _ _ _ _ _ c.in_ok-put_of_iface.ensures c.loop-iface.invariant refl
    (flat_map-seen lent_sited (spec.uses_of_iface c.args.names.now c.args.faults.now) c.args.ifaces.now c.loop-iface.iface-index c.iface-item.result (omega arith) c.iface-item.is)
