use Rattle.std.proofs.Common.{Result, sym, subst}
use Rattle.vital_stim.specs.declared.fault.StimFault.{StimFault}
use Rattle.vital_stim.specs.declared.stimuli.Stimuli.{Stimuli}
use Rattle.vital_answers.specs.Outcome.{Stage}
use Rattle.vital_run.specs.Stimuli.{IsReadStimuliAnswer}
use Rattle.vital_run.proofs.stimuli.play_text.Goals as goal

pub returns-in-Ok : goal.returns-in-Ok
returns-in-Ok g c =
    subst (λ (read : Result Stimuli StimFault). Stage (IsReadStimuliAnswer c.args.name.now c.args.until read) c.play_stimuli.result c.args.printer.now c.play_stimuli.new.printer) (sym c.in-Ok.ensures.answer) c.play_stimuli.ensures

pub returns-in-Err-Fault : goal.returns-in-Err-Fault
returns-in-Err-Fault g c =
    let told = rw c.in-Err-Fault.field-0-is at c.in-Err-Fault.ensures.answer in
    subst (λ (read : Result Stimuli StimFault). Stage (IsReadStimuliAnswer c.args.name.now c.args.until read) c.refuse_stimuli.result c.args.printer.now c.refuse_stimuli.new.printer) (sym told) (rw c.in-Err-Fault.field-0-is at c.refuse_stimuli.ensures)
