use Rattle.vital_answers.proofs.Printing.{stage_for, stage_without_memory}
use Rattle.vital_run.proofs.Refusing.{reading_refused}
use Rattle.vital_run.proofs.stages.run_sources.Goals as goal

pub returns-in-Err-Refused : goal.returns-in-Err-Refused
returns-in-Err-Refused g c =
    let only = rw (c.in-Err-Refused.field-0-is, c.as_slice.ensures) at c.in-Err-Refused.ensures.gives in
    stage_for _ _ _ _ _ (rw (c.in-Err-Refused.field-0-is, c.as_slice-in-Err-Refused.ensures) at c.refuse_files.ensures) (reading_refused c.args.job.now c.args.sources.now c.in-Err-Refused.refusal only)

pub returns : goal.returns
returns g c = stage_without_memory _ c.args.printer.now c.requires.goes_on
