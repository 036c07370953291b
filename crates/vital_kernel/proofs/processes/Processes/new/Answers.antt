use Rattle.vital_kernel.proofs.KeptLemmas.{fits-each, wired-each}
use Rattle.vital_kernel.proofs.processes.Processes.new.Goals as goal

pub new-requires-clause-fit : goal.new-requires-clause-fit
new-requires-clause-fit c =
    fits-each c.args.network.now c.cells-cells.result.now c.cells-cells.ensures.cells c.cells-cells.ensures.sound

pub new-requires-clause-one_each : goal.new-requires-clause-one_each
new-requires-clause-one_each c =
    wired-each c.args.network.now c.cells-cells.result.now c.cells-cells.ensures.cells c.cells-cells.ensures.sound
