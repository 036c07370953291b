-- How what `read_job` gives is read.
use Rattle.std.specs.Prelude.{◌≡◌, ◌<◌, ◌≤◌, ◌^◌, List, length, Result, Ok, Err}
use Rattle.vital_words.specs.declared.job.Job.{Job}
use Rattle.vital_words.specs.declared.job.JobError.{JobError}
use Rattle.vital_words.specs.declared.job.JobError.TheVariants.{Usage, NoMemory}
use Rattle.vital_words.specs.declared.job.NamedFile.{NamedFile}
use Rattle.vital_words.specs.declared.job.Task.{Task}
use Rattle.vital_words.specs.declared.job.Task.TheVariants.{Play, Check, Tree, Sim, SelfRun}
use Rattle.vital_words.specs.declared.refusal.UsageFault.{UsageFault}

-- What was returned is the defined job or fault, unless memory ran out.
abbrev pub GivesJob : Result Job JobError → Result Job UsageFault → Type 0
GivesJob (Ok found) defined = defined ≡ Ok found
GivesJob (Err (Usage fault)) defined = defined ≡ Err fault
GivesJob (Err NoMemory) defined = Unit {0}

-- The files that a task names by number are among these.
abbrev pub AreIn : List NamedFile → Task → Type 0
AreIn files (Play play) = play.stim < length files
AreIn files Check = Unit {0}
AreIn files (Tree tree) = Unit {0}
AreIn files (Sim sim) = sim.stim < length files
AreIn files (SelfRun run) = Unit {0}

-- The files that the task of a job names by number are among its files.
abbrev pub NamesIn : Job → Type 0
NamesIn job = AreIn job.files job.task

-- The end time of a task is at most 2^60 fs, and its limit of delta numbers is 1 to 1,000,000; a seed is below 2^64, and there
-- are 1 to 10,000 cells.
abbrev pub IsBoundedTask : Task → Type 0
IsBoundedTask (Play play) = play.until ≤ 2 ^ 60
IsBoundedTask Check = Unit {0}
IsBoundedTask (Tree tree) = Unit {0}
IsBoundedTask (Sim sim) = (sim.until ≤ 2 ^ 60) × (1 ≤ sim.limit) × (sim.limit ≤ 1_000_000)
IsBoundedTask (SelfRun run) = (run.seed < 2 ^ 64) × (1 ≤ run.cells) × (run.cells ≤ 10_000)

abbrev pub IsBounded : Job → Type 0
IsBounded job = IsBoundedTask job.task
