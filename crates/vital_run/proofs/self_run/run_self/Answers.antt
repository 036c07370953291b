use Rattle.vital_answers.proofs.Printing.{stage_without_memory}
use Rattle.vital_run.proofs.self_run.run_self.Goals as goal

pub returns-in_default-self_sources : goal.returns-in_default-self_sources
returns-in_default-self_sources g c = stage_without_memory _ c.args.printer.now c.requires.goes_on

pub returns : goal.returns
returns g c = rw (c.in-Ok.ensures.job, c.in-Ok-self_sources.ensures.sources) at c.run_drawn.ensures
