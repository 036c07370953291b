-- The stage of loading: the files of a job are loaded in the order of its words.
use Rattle.std.specs.Prelude.{ℕ, ◌≡◌, ◌≤◌, ◌+◌, ◌*◌, Bool, true, false, List, [], ◌∷◌, ◌++◌, length, map, take, nat_le, Option, Some, None, IfSome, IsSomeAnd, Result, Ok, Err, if◌then◌else◌}
use Rattle.vital_base.specs.Shelves.{Files, History}
use Rattle.vital_report.specs.Lines.{refused_limit}
use Rattle.vital_report.specs.declared.why.Limit.TheVariants.{File}
use Rattle.vital_answers.specs.Answer.{Answer, ◌>>=◌, refused, not_there}
use Rattle.vital_answers.specs.declared.loading.Source.{Source}
use Rattle.vital_answers.specs.declared.status.Status.{Status}
use Rattle.vital_answers.specs.declared.status.Status.TheVariants.{Done, Found, Syntax, Limit, Library, Netlist, Sdf, Stimulus, DeltaLimit}
use Rattle.vital_words.specs.declared.job.NamedFile.{NamedFile}

-- A file that is too long is refused with no place in it.
abbrev pub too_long : List ℕ → Answer
too_long name = refused (refused_limit File (record { file = name; line = 0; column = 0 })) Limit

-- The bytes of a file of this name, where it is there and has at most 16,777,216 of them.
abbrev pub loaded : List ℕ → Option (List ℕ) → Result (List ℕ) Answer
loaded name None = Err not_there
loaded name (Some text) = if nat_le (length text) 16_777_216 then Ok text else Err (too_long name)

-- The bytes of several files, or the first one in order that isn't there or is too long.
abbrev pub all_loaded : Files → List NamedFile → Result (List Source) Answer
all_loaded files [] = Ok []
all_loaded files (file ∷ others) = do
  text ← loaded file.name (files file.name)
  sources ← all_loaded files others
  Ok (record { kind = file.kind; text = text } ∷ sources)

-- ---- what is asked of the shelf

-- Of these files the first so many were to be opened, in order and each once, and no other name was; each of them was read at
-- most 16,777,217 times, and none after its end.
pub record OpensFirst (files : List NamedFile) (count : ℕ) (old new : History) : Type 0 where
  pub within : count ≤ length files
  pub names : new.names ≡ old.names ++ take count (map (λ file. file.name) files)
  pub reads : new.reads ≤ old.reads + 16_777_217 * count
  pub no_late_read : new.late_reads ≡ old.late_reads

-- The same of a shelf that tells its history.
abbrev pub Opens : List NamedFile → ℕ → Option History → Option History → Type 0
Opens files count old new = IfSome old (λ before. IsSomeAnd new (OpensFirst files count before))

-- Does this status come only where all files of a job were loaded?
abbrev pub follows_loading : Status → Bool
follows_loading Done = true
follows_loading Found = true
follows_loading Syntax = true
follows_loading Library = true
follows_loading Netlist = true
follows_loading Sdf = true
follows_loading Stimulus = true
follows_loading DeltaLimit = true
follows_loading other = false

-- Of the files of a job the first ones were opened: all of them where the status comes only where all were loaded.
abbrev pub OpensFiles : List NamedFile → Status → Option History → Option History → Type 0
OpensFiles files status old new =
    (count : ℕ) × Opens files count old new × (follows_loading status ≡ true → count ≡ length files)
