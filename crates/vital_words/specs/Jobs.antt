-- What the words of a command line ask for.
use Rattle.std.specs.Prelude.{ℕ, Bool, true, false, List, [], ◌∷◌, position, unwrap_or, Option, Some, None, Result, Ok, Err}
use Rattle.std.specs.List.{filter_map}
use Rattle.std.specs.Option.{option_and_then, option_map}
use Rattle.vital_base.specs.declared.corner.Corner.{Corner}
use Rattle.vital_base.specs.declared.corner.Corner.TheVariants as corner
use Rattle.vital_base.specs.declared.watch.Watch.{Watch}
use Rattle.vital_base.specs.declared.watch.Watch.TheVariants as watch
use Rattle.vital_identifiers.specs.Identifiers.{folded}
use Rattle.vital_words.specs.Commands.{command_named, rules_of}
use Rattle.vital_words.specs.Keys.{◌>>=◌, value_in, value_of, end_time, corner_named, delta_limit, watch_named, seed_of, cells_of}
use Rattle.vital_words.specs.Refusals.{first_fault, missing}
use Rattle.vital_words.specs.declared.command.Command.{Command}
use Rattle.vital_words.specs.declared.command.Command.TheVariants as command
use Rattle.vital_words.specs.declared.command.KeyRule.{KeyRule}
use Rattle.vital_words.specs.declared.job.Job.{Job}
use Rattle.vital_words.specs.declared.job.NamedFile.{NamedFile}
use Rattle.vital_words.specs.declared.job.Play.{Play}
use Rattle.vital_words.specs.declared.job.SelfRun.{SelfRun}
use Rattle.vital_words.specs.declared.job.Sim.{Sim}
use Rattle.vital_words.specs.declared.job.Task.{Task}
use Rattle.vital_words.specs.declared.job.Task.TheVariants as task
use Rattle.vital_words.specs.declared.job.Tree.{Tree}
use Rattle.vital_words.specs.declared.key.FileKind.{FileKind}
use Rattle.vital_words.specs.declared.key.FileKind.TheVariants.{Lib, Net, Sdf, Stim}
use Rattle.vital_words.specs.declared.key.Key.{Key}
use Rattle.vital_words.specs.declared.key.Key.TheVariants as key
use Rattle.vital_words.specs.declared.refusal.UsageFault.{UsageFault}
use Rattle.vital_words.specs.declared.refusal.UsageWhy.TheVariants as why

-- The file that a value names, where its key is one for files.
abbrev pub file_of : Key → List ℕ → Option NamedFile
file_of (key.File kind) name = Some (record { kind = kind; name = name })
file_of key.Until value = None
file_of key.Top value = None
file_of key.Corner value = None
file_of key.Delta value = None
file_of key.Watch value = None
file_of key.Seed value = None
file_of key.Cells value = None

-- The file that a word names by this key, where it gives a value to it, or else by another key.
abbrev pub file_or : Key → Option (List ℕ) → Option NamedFile → Option NamedFile
file_or key None others = others
file_or key (Some value) others = file_of key value

-- The file that a word names, where its key is one for files.
abbrev pub file_in : List KeyRule → List ℕ → Option NamedFile
file_in [] word = None
file_in (rule ∷ rules) word = file_or rule.key (value_in rule.key word) (file_in rules word)

abbrev pub is_stim_kind : FileKind → Bool
is_stim_kind Lib = false
is_stim_kind Net = false
is_stim_kind Sdf = false
is_stim_kind Stim = true

-- Is it a stimulus file?
abbrev pub is_stim : NamedFile → Bool
is_stim file = is_stim_kind file.kind

-- What `play` plays of these files, which the words after it name.
abbrev pub play_of : List NamedFile → List (List ℕ) → Option Play
play_of files words = do
  stim ← position is_stim files
  value ← value_of key.Until words
  until ← end_time value
  Some (record { stim = stim; until = until })

-- What `tree` prints, by the words after it.
abbrev pub tree_of : List (List ℕ) → Option Tree
tree_of words = do
  top ← value_of key.Top words
  Some (record { top = folded top })

-- The limit of delta numbers, which is 1,000 where no word gives one.
abbrev pub limit_of : List (List ℕ) → ℕ
limit_of words = unwrap_or (option_and_then delta_limit (value_of key.Delta words)) 1_000

-- Which values of the files of delays are taken, which are the typical ones where no word says.
abbrev pub corner_of : List (List ℕ) → Corner
corner_of words = unwrap_or (option_and_then corner_named (value_of key.Corner words)) corner.Typ

-- The signals that are watched, which are the ports where no word says.
abbrev pub watch_of : List (List ℕ) → Watch
watch_of words = unwrap_or (option_and_then watch_named (value_of key.Watch words)) watch.Ports

-- What `sim` simulates, with these files, by the words after it.
abbrev pub sim_of : List NamedFile → List (List ℕ) → Option Sim
sim_of files words = do
  stim ← position is_stim files
  top ← value_of key.Top words
  value ← value_of key.Until words
  until ← end_time value
  Some (record { stim = stim; top = folded top; until = until; corner = corner_of words; limit = limit_of words; watch = watch_of words })

-- What `self` runs, by the words after it.
abbrev pub self_run_of : List (List ℕ) → Option SelfRun
self_run_of words = do
  value ← value_of key.Seed words
  seed ← seed_of value
  value ← value_of key.Cells words
  cells ← cells_of value
  Some (record { seed = seed; cells = cells })

-- What a command does with these files, which the words after it name.
abbrev pub task_of : Command → List NamedFile → List (List ℕ) → Option Task
task_of command.Play files words = option_map task.Play (play_of files words)
task_of command.Check files words = Some task.Check
task_of command.Tree files words = option_map task.Tree (tree_of words)
task_of command.Sim files words = option_map task.Sim (sim_of files words)
task_of command.SelfRun files words = option_map task.SelfRun (self_run_of words)

-- The job of these files, or a fault.
abbrev pub job_or : List NamedFile → UsageFault → Option Task → Result Job UsageFault
job_or files missing None = Err missing
job_or files missing (Some task) = Ok (record { files = files; task = task })

-- The job, where the words have no fault.
abbrev pub unless : Option UsageFault → Result Job UsageFault → Result Job UsageFault
unless (Some fault) found = Err fault
unless None found = found

-- What the words after a command ask for.
abbrev pub job_of : Command → List (List ℕ) → Result Job UsageFault
job_of command words =
    let files = filter_map (file_in (rules_of command)) words in
    unless (first_fault (rules_of command) words) (job_or files (missing words) (task_of command files words))

-- The job of a command's words, where it is a command.
abbrev pub job_named : Option Command → List (List ℕ) → Result Job UsageFault
job_named None words = Err (record { word = 1; why = why.Command })
job_named (Some command) words = job_of command words

-- What the words ask for, or the first fault from left to right.
abbrev pub job : List (List ℕ) → Result Job UsageFault
job [] = job_named None []
job (command ∷ words) = job_named (command_named command) words
