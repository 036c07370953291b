use Rattle.std.proofs.Common.{arith, refl}
use Rattle.vital_uses.specs.Parts.{type_of_iface}
use Rattle.vital_nodes.proofs.Lists.{filter_map-one, put-said, turn-behind}
use Rattle.vital_uses.proofs.types.put_interface_types.Goals as goal

pub loop-iface-preserved : goal.loop-iface-preserved
loop-iface-preserved c =
    turn-behind _ _ _ _ _ _ _ (put-said _ _ _ _ c.in_ok-put_if_there.ensures c.type_of_iface.ensures) c.loop-iface.invariant refl
    (filter_map-one type_of_iface c.args.ifaces.now c.loop-iface.iface-index c.iface-item.result (omega arith) c.iface-item.is)
