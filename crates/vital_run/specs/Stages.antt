-- What the program answers to words and files, stage by stage: the files of a job are loaded, then read, then joined into a
-- library, and then its task makes an answer of them. The first refusal ends the answer.
use Rattle.std.specs.Prelude.{ℕ, ◌≡◌, List, Option, Some, None, Result, Ok, Err}
use Rattle.std.specs.List.{slice_get}
use Rattle.vital_base.specs.Shelves.{Files}
use Rattle.vital_library.specs.Gathered.{gathered}
use Rattle.vital_library.specs.declared.error.LibraryError.{LibraryError}
use Rattle.vital_answers.specs.Answer.{Answer, not_there, nothing_told}
use Rattle.vital_answers.specs.Cells.{IsCellsAnswer}
use Rattle.vital_answers.specs.Loading.{all_loaded}
use Rattle.vital_answers.specs.Reading.{AreRead}
use Rattle.vital_answers.specs.Designs.{IsUnderAnswer}
use Rattle.vital_answers.specs.Refusals.{refused_words, refused_at, IsLibraryRefusal}
use Rattle.vital_run.specs.Selves.{drawn_by, self_answer, self_job, self_sources}
use Rattle.vital_run.specs.Simulations.{IsSimAnswer}
use Rattle.vital_run.specs.Stimuli.{IsTextAnswer}
use Rattle.vital_answers.specs.Trees.{IsTreeAnswer}
use Rattle.vital_answers.specs.declared.loading.Source.{Source}
use Rattle.vital_answers.specs.declared.reading.ReadFiles.{ReadFiles}
use Rattle.vital_answers.specs.declared.refusal.Refusal.{Refusal}
use Rattle.vital_sdf.specs.declared.group.SdfFile.{SdfFile}
use Rattle.vital_nodes.specs.declared.unit.Units.{Units}
use Rattle.vital_words.specs.Jobs.{job}
use Rattle.vital_words.specs.declared.job.Job.{Job}
use Rattle.vital_words.specs.declared.job.NamedFile.{NamedFile}
use Rattle.vital_words.specs.declared.job.SelfRun.{SelfRun as SelfRun'}
use Rattle.vital_words.specs.declared.job.Sim.{Sim as Sim'}
use Rattle.vital_words.specs.declared.job.Task.{Task}
use Rattle.vital_words.specs.declared.job.Task.TheVariants.{Check, Play, SelfRun, Sim, Tree}
use Rattle.vital_words.specs.declared.refusal.UsageFault.{UsageFault}

-- What `play` answers to its stimulus file.
abbrev pub IsPlayAnswer : ℕ → Option NamedFile → Option Source → Answer → Type 0
IsPlayAnswer until (Some file) (Some source) answer = IsTextAnswer file.name until source.text answer
IsPlayAnswer until (Some file) None answer = answer ≡ not_there
IsPlayAnswer until None source answer = answer ≡ not_there

-- What `sim` answers to its stimulus file, its SDF files and the library.
abbrev pub IsSimulatedAnswer : Sim' → List NamedFile → List SdfFile → List Units → Option NamedFile → Option Source → Answer → Type 0
IsSimulatedAnswer sim files delays library (Some file) (Some source) answer =
    IsUnderAnswer (IsSimAnswer sim files delays file.name source.text) files library sim.top answer
IsSimulatedAnswer sim files delays library (Some file) None answer = answer ≡ not_there
IsSimulatedAnswer sim files delays library None source answer = answer ≡ not_there

-- What a task makes of its files, of the entries of its SDF files, and of their library; `self` makes nothing of files.
abbrev pub IsTaskAnswer : Task → List NamedFile → List Source → List SdfFile → List Units → Answer → Type 0
IsTaskAnswer (Play play) files sources delays library answer =
    IsPlayAnswer play.until (slice_get files play.stim) (slice_get sources play.stim) answer
IsTaskAnswer Check files sources delays library answer = IsCellsAnswer files library answer
IsTaskAnswer (Tree tree) files sources delays library answer = IsUnderAnswer IsTreeAnswer files library tree.top answer
IsTaskAnswer (Sim sim) files sources delays library answer =
    IsSimulatedAnswer sim files delays library (slice_get files sim.stim) (slice_get sources sim.stim) answer
IsTaskAnswer (SelfRun run) files sources delays library answer = answer ≡ nothing_told

-- What is answered to files that were joined into a library, or refused.
abbrev pub IsLibraryAnswer : Job → List Source → List SdfFile → Result (List Units) LibraryError → Answer → Type 0
IsLibraryAnswer job sources delays (Ok library) answer = IsTaskAnswer job.task job.files sources delays library answer
IsLibraryAnswer job sources delays (Err error) answer =
    (refused_so : Refusal) × IsLibraryRefusal error refused_so × (answer ≡ refused_at job.files refused_so)

-- To files that were read, or refused.
abbrev pub IsReadAnswer : Job → List Source → Result ReadFiles Refusal → Answer → Type 0
IsReadAnswer job sources (Ok read) answer = IsLibraryAnswer job sources read.delays (gathered read.units) answer
IsReadAnswer job sources (Err refused_so) answer = answer ≡ refused_at job.files refused_so

-- To files that were loaded, or to their want. All VHDL and SDF files of a run have room for 4,194,304 tokens.
abbrev pub IsLoadedAnswer : Job → Result (List Source) Answer → Answer → Type 0
IsLoadedAnswer job (Ok sources) answer =
    (read : Result ReadFiles Refusal) × AreRead 0 4_194_304 sources read × IsReadAnswer job sources read answer
IsLoadedAnswer job (Err ends_so) answer = answer ≡ ends_so

-- What `self` tells of a job with these sources that it runs: its counts, or the line that refused it.
abbrev pub IsDrawnAnswer : SelfRun' → Job → List Source → Answer → Type 0
IsDrawnAnswer run job sources answer = (inner : Answer) × IsLoadedAnswer job (Ok sources) inner × (answer ≡ self_answer run inner)

-- What `self` answers.
abbrev pub IsSelfAnswer : SelfRun' → Answer → Type 0
IsSelfAnswer run answer = IsDrawnAnswer run self_job (self_sources run) answer

-- What is answered where these are the files: to `self`, which loads none of them, or to a job of another command.
abbrev pub IsAskedAnswer : Files → Job → Option SelfRun' → Answer → Type 0
IsAskedAnswer files job (Some run) answer = IsSelfAnswer run answer
IsAskedAnswer files job None answer = IsLoadedAnswer job (all_loaded files job.files) answer

-- To a job where these are the files, or to words that ask for none.
abbrev pub IsJobAnswer : Files → Result Job UsageFault → Answer → Type 0
IsJobAnswer files (Ok job) answer = IsAskedAnswer files job (drawn_by job.task) answer
IsJobAnswer files (Err fault) answer = answer ≡ refused_words fault

-- What a list of words is answered, where these are the files.
abbrev pub IsAnswer : List (List ℕ) → Files → Answer → Type 0
IsAnswer words files answer = IsJobAnswer files (job words) answer

-- This is the answer, and there is no other.
pub record IsOnlyAnswer (words : List (List ℕ)) (files : Files) (answer : Answer) : Type 0 where
  pub is : IsAnswer words files answer
  pub only : (other : Answer) → IsAnswer words files other → other ≡ answer
