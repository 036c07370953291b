use Rattle.vital_answers.proofs.Printing.{stage_without_memory}
use Rattle.vital_run.proofs.elaborating.answer_entered.Goals as goal

pub returns-in_default-new : goal.returns-in_default-new
returns-in_default-new g c = stage_without_memory _ c.args.printer.now c.requires.goes_on
