use Rattle.vital_run.proofs.stimuli.refuse_stimuli.Goals as goal

pub returns : goal.returns
returns g c = rw c.printed_why.ensures at c.end_with.ensures
