use Rattle.vital_typed_cells.specs.Bits.{number_of}
use Rattle.vital_netlist.proofs.DrivenLemmas.{process-turn}
use Rattle.vital_netlist.proofs.driven.put_processes.Goals as goal

pub loop-process-preserved : goal.loop-process-preserved
loop-process-preserved c =
    process-turn (number_of c.args.bits.now) c.args.processes.now c.loop-process.process-index c.process-item.result
    c.args.driven.now.items c.loop-process.driven.items c.put_process.new.driven.items
    c.loop-process-test.true c.process-item.is c.loop-process.invariant c.in_ok-put_process.ensures
