use Rattle.std.proofs.Common.{◌≡◌, ◌<◌, List, length, map, refl, ap, subst, ◌∙◌}
use Rattle.std.proofs.lemmas.List.Elements.{All-weaker}
use Rattle.std.specs.Borrow.{Bor}
use Rattle.vital_base.specs.declared.ports.PortBit.{PortBit}
use Rattle.vital_kernel.specs.DesignNetworks.{network}
use Rattle.vital_kernel.specs.Networks.{Network}
use Rattle.vital_stim.specs.Stimuli.{Fits}
use Rattle.vital_stim.specs.declared.stimuli.StimLine.{StimLine}
use Rattle.vital_timing.specs.declared.delay.Delay.{Delay}
use Rattle.vital_answers.specs.Outcome.{Stage}
use Rattle.vital_run.specs.Runs.{IsRunAnswer}
use Rattle.vital_run.specs.Simulations.{simulated}
use Rattle.vital_run.proofs.Delays.{delays_fit}
use Rattle.vital_run.proofs.Driven.{design_is_driven}
use Rattle.vital_answers.proofs.Printing.{stage_without_memory}
use Rattle.vital_run.proofs.simulating.simulate_stimuli.Goals as goal

pub of_design-requires-clause-fit : goal.of_design-requires-clause-fit
of_design-requires-clause-fit g c =
    rw c.as_slice.ensures.value (delays_fit c.args.design.now c.args.values.now c.in-Ok.lent.items c.in-Ok.ensures c.requires.delays)

pub of_design-requires-clause-there : goal.of_design-requires-clause-there
of_design-requires-clause-there g c =
    let d = c.args.design.now in
    let stimuli = c.args.stimuli.now in
    rw c.as_slice-lines.ensures
    (All-weaker (Fits stimuli) (λ (line : StimLine). line.port < length d.ports) (λ line fits. subst (λ (ps : List PortBit). line.port < length ps) c.requires.ports fits.there) stimuli.lines c.requires.fit)

pub run_network-requires-clause-driven : goal.run_network-requires-clause-driven
run_network-requires-clause-driven g c =
    design_is_driven c.args.design.now c.in-Ok-of_design.network c.args.stimuli.now _ c.as_slice-lines.result.now _ c.in-Ok-of_design.ensures c.as_slice-lines.ensures c.requires.ports c.requires.fit

pub returns-in_default-of_design : goal.returns-in_default-of_design
returns-in_default-of_design g c = stage_without_memory _ c.args.printer.now c.requires.goes_on

pub returns : goal.returns
returns g c =
    let d = c.args.design.now in
    let sim = c.args.sim.now in
    let own = c.args.stimuli.now.lines in
    let values = c.args.values.now in
    let lines = c.as_slice-lines.result.now in
    let made : c.in-Ok-of_design.network ≡ simulated sim d values own =
    c.in-Ok-of_design.ensures
    ∙ ap (λ (vs : List (Bor (List Delay))). network d (map (λ v. v.now) vs) lines sim.watch) c.as_slice.ensures.value
    ∙ ap (λ (vs : List (List Delay)). network d vs lines sim.watch) c.in-Ok.ensures
    ∙ ap (λ (ls : List StimLine). network d values ls sim.watch) c.as_slice-lines.ensures in
    let stage = subst (λ (ls : List StimLine). Stage (IsRunAnswer c.in-Ok-of_design.network ls sim.until sim.limit) c.run_network.result c.args.printer.now c.run_network.new.printer) c.as_slice-lines.ensures c.run_network.ensures in
    subst (λ (n : Network). Stage (IsRunAnswer n own sim.until sim.limit) c.run_network.result c.args.printer.now c.run_network.new.printer) made stage
