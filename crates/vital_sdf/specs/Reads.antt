-- What the functions that read answer, beside what the definitions of an SDF file say.
use Rattle.std.specs.Prelude.{◌≡◌, Result, Ok, Err}
use denote.Ref.{MutBor}
use Rattle.vital_sdf.specs.Reading.{Input, Reader, Failure}
use Rattle.vital_sdf.specs.declared.read_error.ReadError.{ReadError}
use Rattle.vital_sdf.specs.declared.read_error.ReadError.TheVariants.{Fault, NoMemory}

-- An answer is what is read and leaves what is left, or the fault that is met, or that there was no memory.
abbrev pub Reads : {A : Type 0} → Result (A × Input) Failure → Result A ReadError → Input → Type 0
Reads read (Ok a) new = read ≡ Ok (a, new)
Reads read (Err (Fault fault place)) new = read ≡ Err (fault, place)
Reads read (Err NoMemory) new = Unit {0}

-- A function that makes of what was there what a reader makes of it.
pub record MakesBy {A : Type 0} (item : A → Reader A)
    (post : MutBor Input → A → Result A ReadError → MutBor Input → Type 0) : Type 0 where
  pub makes : (old new : MutBor Input) (a : A) (r : Result A ReadError) → post old a r new → Reads (item a old.now) r new.now

-- A function that reads what a reader reads.
pub record ReadsAlways {A : Type 0} (item : Reader A)
    (post : MutBor Input → Result A ReadError → MutBor Input → Type 0) : Type 0 where
  pub reads : (old new : MutBor Input) (r : Result A ReadError) → post old r new → Reads (item old.now) r new.now

-- The same where nothing is left to read.
abbrev pub Answers : {A : Type 0} → Result A Failure → Result A ReadError → Type 0
Answers read (Ok a) = read ≡ Ok a
Answers read (Err (Fault fault place)) = read ≡ Err (fault, place)
Answers read (Err NoMemory) = Unit {0}
