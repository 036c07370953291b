use Rattle.std.proofs.Common.{refl}
use Rattle.vital_typed_cells.specs.Bits.{number_of}
use Rattle.vital_typed_cells.specs.declared.wire.WireDelay.{WireDelay}
use Rattle.vital_netlist.proofs.DrivenLemmas.{one-turn}
use Rattle.vital_netlist.proofs.driven.put_wires.Goals as goal

pub loop-wire-preserved : goal.loop-wire-preserved
loop-wire-preserved c =
    one-turn (λ (w : WireDelay). w.signal) (number_of c.args.bits.now) c.args.wires.now c.args.wires.now c.loop-wire.wire-index c.wire-item.result c.as_slice.result.now
    c.args.driven.now.items c.loop-wire.driven.items c.put_number.new.driven.items
    refl c.loop-wire-test.true c.wire-item.is c.as_slice.ensures c.loop-wire.invariant c.in_ok-put_number.ensures
