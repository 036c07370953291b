use Rattle.std.proofs.Common.{◌≡◌, Ok}
use Rattle.vital_answers.specs.Loading.{all_loaded, too_long}
use Rattle.vital_run.specs.Stages.{IsLoadedAnswer}
use Rattle.vital_answers.proofs.Printing.{if_also}
use Rattle.vital_run.proofs.Running.{stage_runs, runs_without_memory, loaded_answer, long_answer, long_is_not_loaded}
use Rattle.vital_run.proofs.stages.run_job.Goals as goal

pub returns-in-Ok-clause-runs : goal.returns-in-Ok-clause-runs
returns-in-Ok-clause-runs g c =
    let job = c.args.job.now in
    let loaded = rw c.as_slice.ensures at c.in-Ok.ensures.loaded in
    let within = if_also (g.S.Shelf.files c.args.shelf.now) _ _ loaded (λ told e. loaded_answer job c.in-Ok.sources (all_loaded told job.files) e) in
    stage_runs _ (IsLoadedAnswer job (Ok c.in-Ok.sources)) c.run_sources.result _ _ _ _ _ _ within (c.in-Ok.ensures.other_leaves_count (λ e. absurd cc)) c.run_sources.ensures

pub returns-in-Err-TooLong-clause-runs : goal.returns-in-Err-TooLong-clause-runs
returns-in-Err-TooLong-clause-runs g c =
    let job = c.args.job.now in
    let name = c.in-Err-TooLong.file.now in
    let loaded = rw (c.in-Err-TooLong.field-0-is, c.as_slice.ensures) at c.in-Err-TooLong.ensures.loaded in
    let within = if_also (g.S.Shelf.files c.args.shelf.now) _ _ loaded (λ told e. long_answer job name (all_loaded told job.files) e) in
    stage_runs _ (λ answer. answer ≡ too_long name) c.refuse_long.result _ _ _ _ _ _ within (c.in-Err-TooLong.ensures.other_leaves_count (λ e. absurd cc))
    (rw c.in-Err-TooLong.field-0-is at c.refuse_long.ensures)

pub returns-in-Err-TooLong-clause-opens : goal.returns-in-Err-TooLong-clause-opens
returns-in-Err-TooLong-clause-opens g c =
    let opens = rw c.as_slice.ensures at c.in-Err-TooLong.ensures.opens in
    let refused = rw c.in-Err-TooLong.field-0-is at c.refuse_long.ensures in
    (opens.0, opens.1, λ follows. absurd (long_is_not_loaded c.in-Err-TooLong.file.now c.refuse_long.result _ _ refused follows))

pub returns-in-Err-NoMemory-clause-runs : goal.returns-in-Err-NoMemory-clause-runs
returns-in-Err-NoMemory-clause-runs g c =
    runs_without_memory _ _ _ _ _ c.args.printer.now (c.in-Err-NoMemory.ensures.other_leaves_count (λ e. absurd cc)) c.requires.goes_on
