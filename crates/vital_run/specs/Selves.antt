-- The command `self`: the job that it runs, and what of that job's answer it tells.
use Rattle.std.specs.Prelude.{ℕ, ◌-◌, ◌==◌, Bool, true, false, List, [], ◌∷◌, codes, length, take, Option, Some, None, Result, Ok, Err, if◌then◌else◌}
use Rattle.vital_base.specs.Tallies.{Tally, count, no_lines}
use Rattle.vital_base.specs.declared.corner.Corner.TheVariants.{Typ}
use Rattle.vital_base.specs.declared.watch.Watch.TheVariants.{All}
use Rattle.vital_report.specs.Lines.{Said, end, events, made_before, messages, self_head, text_of}
use Rattle.vital_answers.specs.Answer.{Answer, refused}
use Rattle.vital_answers.specs.declared.loading.Source.{Source}
use Rattle.vital_answers.specs.declared.status.Status.{Status}
use Rattle.vital_answers.specs.declared.status.Status.TheVariants.{Done, ReadFault, WriteFault, NoMemory}
use Rattle.vital_self.specs.SelfTexts.{self_texts}
use Rattle.vital_words.specs.declared.job.Job.{Job}
use Rattle.vital_words.specs.declared.job.NamedFile.{NamedFile}
use Rattle.vital_words.specs.declared.job.SelfRun.{SelfRun as SelfRun'}
use Rattle.vital_words.specs.declared.job.Task.{Task}
use Rattle.vital_words.specs.declared.job.Task.TheVariants.{Sim, SelfRun}
use Rattle.vital_words.specs.declared.key.FileKind.{FileKind}
use Rattle.vital_words.specs.declared.key.FileKind.TheVariants.{Lib, Net, Stim}
use Rattle.vital_words.specs.declared.refusal.UsageFault.{UsageFault}

-- What a task draws and simulates, where it is that of `self`.
abbrev pub drawn_by : Task → Option SelfRun'
drawn_by (SelfRun run) = Some run
drawn_by other = None

-- The files that are asked of the shelf: those of a job, and none where `self` draws them.
abbrev pub asked_files : Option SelfRun' → List NamedFile → List NamedFile
asked_files (Some run) files = []
asked_files None files = files

-- The same of words; those that are refused ask for none.
abbrev pub files_of : Result Job UsageFault → List NamedFile
files_of (Ok job) = asked_files (drawn_by job.task) job.files
files_of (Err fault) = []

-- ---- the job that is run

abbrev pub named : FileKind → List ℕ → NamedFile
named kind name = record { kind = kind; name = name }

-- It simulates g of three files until 40 ns (40,000,000 fs), with typical delays, and watches all signals.
unfoldable pub self_job : Job
self_job = record {
  files = named Lib (codes "and2.vhd") ∷ named Net (codes "g.vhd") ∷ named Stim (codes "s") ∷ [];
  task = Sim (record { stim = 2; top = codes "g"; until = 40_000_000; corner = Typ; limit = 1_000; watch = All });
}

-- The texts of its files, which a seed draws.
unfoldable pub self_sources : SelfRun' → List Source
self_sources run =
    let texts = self_texts run.seed run.cells in
    record { kind = Lib; text = texts.library } ∷ record { kind = Net; text = texts.netlist } ∷ record { kind = Stim; text = texts.stimuli } ∷ []

-- ---- what is told of its answer

-- How many events and glitches there were, and the end time in femtoseconds.
abbrev pub self_lines : SelfRun' → Tally → List Said
self_lines run t = self_head run.seed run.cells ∷ events t.events ∷ messages t.glitches ∷ end 40_000_000 ∷ []

abbrev pub tallied_answer : SelfRun' → Tally → Answer
tallied_answer run t = record { bytes = text_of (self_lines run t); status = Done }

-- What stands behind the last LF, which is 10, of these bytes; or this line, where there is none.
abbrev pub behind_last : List ℕ → List ℕ → List ℕ
behind_last line [] = line
behind_last line (byte ∷ bytes) = behind_last (if byte == 10 then bytes else line) bytes

-- The last line of an answer without the LF that ends both.
abbrev pub last_text : List ℕ → List ℕ
last_text bytes = let text = take (length bytes - 1) bytes in behind_last text text

-- The last line again, with this status.
abbrev pub last_line : Status → List ℕ → Answer
last_line status bytes = refused (made_before (last_text bytes)) status

-- What is told of a job that ended with this status and wrote these bytes: its counts, or the line that refused it.
abbrev pub told_of_job : SelfRun' → Status → List ℕ → Answer
told_of_job run Done bytes = tallied_answer run (count no_lines bytes)
told_of_job run refused_so bytes = last_line refused_so bytes

abbrev pub self_answer : SelfRun' → Answer → Answer
self_answer run inner = told_of_job run inner.status inner.bytes

-- Is the last line printed again where a job ended with this status? It is where it didn't end well, and neither a device nor memory failed.
abbrev pub repeats_last_line : Status → Bool
repeats_last_line Done = false
repeats_last_line ReadFault = false
repeats_last_line WriteFault = false
repeats_last_line NoMemory = false
repeats_last_line other = true
