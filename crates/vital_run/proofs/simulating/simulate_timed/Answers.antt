use Rattle.std.proofs.Common.{Result, sym, subst, ◌∙◌}
use Rattle.vital_stim.specs.declared.fault.StimFault.{StimFault}
use Rattle.vital_stim.specs.declared.stimuli.Stimuli.{Stimuli}
use Rattle.vital_answers.specs.Outcome.{Stage}
use Rattle.vital_run.specs.Simulations.{IsStimulatedAnswer}
use Rattle.vital_run.proofs.simulating.simulate_timed.Goals as goal

pub returns-in-Ok : goal.returns-in-Ok
returns-in-Ok g c =
    let asked = c.args.asked in
    let told = rw c.ports.ensures.ports at c.in-Ok.ensures.answer in
    subst (λ (read : Result Stimuli StimFault). Stage (IsStimulatedAnswer asked.sim.now asked.name.now c.args.design.now c.args.values.now read) c.simulate_stimuli.result c.args.printer.now c.simulate_stimuli.new.printer) (sym told) c.simulate_stimuli.ensures

pub returns-in-Err-Fault : goal.returns-in-Err-Fault
returns-in-Err-Fault g c =
    let asked = c.args.asked in
    let told = rw (c.in-Err-Fault.field-0-is, c.ports.ensures.ports) at c.in-Err-Fault.ensures.answer in
    subst (λ (read : Result Stimuli StimFault). Stage (IsStimulatedAnswer asked.sim.now asked.name.now c.args.design.now c.args.values.now read) c.refuse_stimuli.result c.args.printer.now c.refuse_stimuli.new.printer) (sym told) (rw c.in-Err-Fault.field-0-is at c.refuse_stimuli.ensures)

pub simulate_stimuli-requires-clause-ports : goal.simulate_stimuli-requires-clause-ports
simulate_stimuli-requires-clause-ports g c = c.in-Ok.ensures.given ∙ c.ports.ensures.ports
