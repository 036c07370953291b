-- What the functions that read answer, beside what the definitions of shapes say.
use Rattle.std.specs.Prelude.{◌≡◌, ℕ, List, [], ◌∷◌, ◌++◌, Option, Some, None, Result, Ok, Err}
use Rattle.std.specs.declared.alloc.Global.{Global}
use denote.Ref.{MutBor}
use Rattle.vital_shapes.specs.Reading.{Input, Reader, onward, pure}
use Rattle.vital_vhdl.specs.declared.shape_error.ShapeError.{ShapeError}
use Rattle.vital_vhdl.specs.declared.shape_error.ShapeError.TheVariants.{NoMemory, NoIdentifier}

-- An answer is what is read and leaves what is left, or there was no identifier to read, or no memory.
abbrev pub Reads : {A : Type 0} → Option (A × Input) → Result A ShapeError → Input → Type 0
Reads read (Ok a) new = read ≡ Some (a, new)
Reads read (Err NoMemory) new = Unit {0}
Reads read (Err NoIdentifier) new = read ≡ None

-- what a reader reads, behind those that were found
abbrev pub adding : {A : Type 0} → List A → Option (List A × Input) → Option (List A × Input)
adding found read = onward read (λ xs. pure (found ++ xs))

-- A function that may add what a reader of lists reads to those that were found.
pub record AddsBy {A : Type 0} (item : ℕ → Reader (List A))
    (post : MutBor Input → List A → ℕ → Result (List A) ShapeError → MutBor Input → Type 0) : Type 0 where
  pub adds : (old new : MutBor Input) (found : List A) (alternative : ℕ) (r : Result (List A) ShapeError)
      → post old found alternative r new → Reads (adding found (item alternative old.now)) r new.now

-- A function that reads what a reader reads, by the alternative that begins it.
pub record ReadsBy {A : Type 0} (item : ℕ → Reader A)
    (post : MutBor Input → ℕ → Result A ShapeError → MutBor Input → Type 0) : Type 0 where
  pub reads : (old new : MutBor Input) (alternative : ℕ) (r : Result A ShapeError)
      → post old alternative r new → Reads (item alternative old.now) r new.now

-- A function that reads what a reader reads.
pub record ReadsAlways {A : Type 0} (item : Reader A)
    (post : MutBor Input → Result A ShapeError → MutBor Input → Type 0) : Type 0 where
  pub reads : (old new : MutBor Input) (r : Result A ShapeError) → post old r new → Reads (item old.now) r new.now

-- A function that reads what may be nested in itself: it may be called always, and reads with at most so many levels.
pub record ReadsWithin {A : Type 0} (within : ℕ → Reader A) (levels : ℕ) (pre : Global → MutBor Input → ℕ → Type 0)
    (post : Global → MutBor Input → ℕ → Result A ShapeError → MutBor Input → Type 0) : Type 0 where
  pub callable : (alloc : Global) (old : MutBor Input) → pre alloc old levels
  pub reads : (alloc : Global) (old new : MutBor Input) (r : Result A ShapeError) → post alloc old levels r new
      → Reads (within levels old.now) r new.now
