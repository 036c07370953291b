use Rattle.std.proofs.Common.{refl, arith}
use Rattle.vital_typed_declarations.specs.Declarations as spec
use Rattle.vital_typed_declarations.specs.Declarations.{lent_sited}
use Rattle.vital_nodes.proofs.Lists.{flat_map-seen, turn-behind}
use Rattle.vital_typed_declarations.proofs.interface.put_broken_ports.Goals as goal

pub loop-port-preserved : goal.loop-port-preserved
loop-port-preserved c =
    turn-behind _ _ _ _ _ _ _ c.in_ok-put_broken_port.ensures c.loop-port.invariant refl
    (flat_map-seen lent_sited (spec.broken_port c.args.names.now c.args.faults.now) c.args.ports.now c.loop-port.port-index c.port-item.result (omega arith) c.port-item.is)
