use Rattle.vital_kernel.specs.PortNetworks.{port_network}
use Rattle.vital_run.specs.Runs.{IsRunAnswer}
use Rattle.vital_run.specs.Stimuli.{IsStimuliAnswer}
use Rattle.vital_run.proofs.Driven.{ports_are_driven}
use Rattle.vital_run.proofs.OneRun.{told_of_stimuli}
use Rattle.vital_answers.proofs.Printing.{stage_for}
use Rattle.vital_run.proofs.stimuli.play_stimuli.Goals as goal

pub run_network-requires-clause-driven : goal.run_network-requires-clause-driven
run_network-requires-clause-driven g c =
    ports_are_driven c.in-Ok.network c.args.stimuli c.as_slice-lines.result.now c.in-Ok.ensures c.as_slice-lines.ensures c.requires.fit

pub returns : goal.returns
returns g c =
    let stimuli = c.args.stimuli in
    let until = c.args.until in
    let told = rw (c.in-Ok.ensures, c.as_slice-lines.ensures) at c.run_network.ensures in
    stage_for (IsRunAnswer (port_network stimuli.ports) stimuli.lines until 1_000) (IsStimuliAnswer until stimuli) c.run_network.result c.args.printer.now c.run_network.new.printer told (told_of_stimuli until stimuli)
