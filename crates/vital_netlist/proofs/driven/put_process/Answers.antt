use Rattle.vital_sections.specs.declared.path_delay.PathDelay.{PathDelay}
use Rattle.vital_typed_cells.specs.Bits.{number_of}
use Rattle.vital_netlist.proofs.DrivenLemmas.{one-turn}
use Rattle.vital_netlist.proofs.driven.put_process.Goals as goal

pub loop-path_delay-preserved : goal.loop-path_delay-preserved
loop-path_delay-preserved c =
    one-turn (λ (d : PathDelay). d.out_signal) (number_of c.args.bits.now) c.args.process.now.sections.path_delays c.as_slice-path_delay-items.result.now c.loop-path_delay.path_delay-index c.path_delay-item.result c.as_slice.result.now
    c.args.driven.now.items c.loop-path_delay.driven.items c.put_number.new.driven.items
    c.as_slice-path_delay-items.ensures c.loop-path_delay-test.true c.path_delay-item.is c.as_slice.ensures c.loop-path_delay.invariant c.in_ok-put_number.ensures
