use Rattle.std.proofs.Common.{refl}
use Rattle.vital_run.specs.Stages.{IsSelfAnswer}
use Rattle.vital_answers.proofs.Printing.{if_told}
use Rattle.vital_run.proofs.Running.{stage_runs}
use Rattle.vital_run.proofs.program.answer_job.Goals as goal

pub returns-in-Some-clause-runs : goal.returns-in-Some-clause-runs
returns-in-Some-clause-runs g c =
    rw (← c.in-Some.ensures.run) (stage_runs _ (IsSelfAnswer _) c.run_self.result _ _ _ _ _ _ (if_told (g.S.Shelf.files c.args.shelf.now) _ (λ files answer h. h)) refl c.run_self.ensures)

pub returns-in-None-clause-runs : goal.returns-in-None-clause-runs
returns-in-None-clause-runs g c = rw (← c.in-None.ensures.run) c.run_job.ensures.runs

pub returns-in-None-clause-opens : goal.returns-in-None-clause-opens
returns-in-None-clause-opens g c = rw (← c.in-None.ensures.run) c.run_job.ensures.opens
