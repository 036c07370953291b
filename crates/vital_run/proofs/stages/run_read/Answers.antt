use Rattle.std.proofs.Common.{◌≡◌}
use Rattle.vital_library.specs.Gathered.{gathered}
use Rattle.vital_answers.specs.Refusals.{refused_at}
use Rattle.vital_run.specs.Stages.{IsLibraryAnswer}
use Rattle.vital_run.proofs.LibraryRefused.{library_refused}
use Rattle.vital_answers.proofs.Printing.{stage_for, stage_without_memory}
use Rattle.vital_run.proofs.stages.run_read.Goals as goal

pub run_task-requires-clause-read : goal.run_task-requires-clause-read
run_task-requires-clause-read g c = rw c.in-Ok.ensures.files c.requires.read

pub returns-in-Some : goal.returns-in-Some
returns-in-Some g c =
    let job = c.args.job.now in
    stage_for (λ answer. answer ≡ refused_at c.as_slice.result.now c.in-Some.refusal) (IsLibraryAnswer job c.args.sources.now c.args.read.delays (gathered c.args.read.units)) c.refuse_files.result c.args.printer.now c.refuse_files.new.printer c.refuse_files.ensures
    (rw c.as_slice.ensures (library_refused job c.args.sources.now c.args.read.delays c.in-Err.error (gathered c.args.read.units) c.in-Some.refusal c.in-Err.ensures.outcome c.in-Some.ensures))

pub returns : goal.returns
returns g c = stage_without_memory _ c.args.printer.now c.requires.goes_on
