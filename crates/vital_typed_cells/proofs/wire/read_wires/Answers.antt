use Rattle.std.proofs.Common.{arith, refl}
use Rattle.vital_typed_cells.specs.Wires.{wire}
use Rattle.vital_nodes.proofs.Lists.{filter_map-seen, turn}
use Rattle.vital_typed_cells.proofs.wire.read_wires.Goals as goal

pub loop-conc-preserved : goal.loop-conc-preserved
loop-conc-preserved c =
    turn _ _ _ _ _ _ c.in_ok-put_wire.ensures c.loop-conc.invariant refl
    (filter_map-seen (λ y. y.now) (wire c.args.names.now) c.args.statements.now c.loop-conc.conc-index c.conc-item.result (omega arith) c.conc-item.is)
