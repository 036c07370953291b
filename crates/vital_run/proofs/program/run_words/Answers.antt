use Rattle.std.proofs.Common.{◌≡◌, refl}
use Rattle.vital_answers.specs.Refusals.{refused_words}
use Rattle.vital_answers.proofs.Printing.{if_told}
use Rattle.vital_run.proofs.Running.{stage_runs, words_answer}
use Rattle.vital_run.proofs.program.run_words.Goals as goal
use Rattle.vital_words.specs.Jobs.{job}

pub returns-in-Ok-clause-runs : goal.returns-in-Ok-clause-runs
returns-in-Ok-clause-runs g c = rw c.in-Ok.ensures.job c.answer_job.ensures.runs

pub returns-in-Err-Usage-clause-runs : goal.returns-in-Err-Usage-clause-runs
returns-in-Err-Usage-clause-runs g c =
    let fault = c.in-Err-Usage.fault in
    let refused = rw c.in-Err-Usage.field-0-is at c.in-Err-Usage.ensures.job in
    stage_runs _ (λ answer. answer ≡ refused_words fault) c.refuse_words.result _ _ _ _ _ _
    (if_told (g.S.Shelf.files c.args.shelf.now) _ (λ files answer h. words_answer fault files (job c.args.words.now) refused answer h)) refl
    (rw c.in-Err-Usage.field-0-is at c.refuse_words.ensures)
