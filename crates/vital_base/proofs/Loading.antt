-- A file that is read piece after piece.
use Rattle.std.proofs.Common.{◌≡◌, ◌∙◌, ap, sym, ℕ, ◌+◌, ◌≤◌, ◌==◌, ◌≢◌, arith, add-zero, add_assoc, false, List, [], ◌∷◌, ◌++◌, Option, None, Some, IfSome}
use Rattle.std.specs.Option.{option_map}
use Rattle.std.proofs.lemmas.Bool.{ne_eqb}
use Rattle.vital_base.specs.Shelves.{Files, History, with_open, with_read, with_load, LoadsOne}

-- These bytes of the file have been read, and the rest is left.
abbrev pub Leaves : Option (List ℕ) → List ℕ → Option (List ℕ) → Type 0
Leaves content bytes left = (rest : List ℕ) × (content ≡ Some (bytes ++ rest)) × (left ≡ Some rest)

-- The same of a shelf's file, where the shelf tells its files.
abbrev pub LeavesWhereTold : Option Files → List ℕ → List ℕ → Option (List ℕ) → Type 0
LeavesWhereTold files name bytes left = IfSome files (λ told. Leaves (told name) bytes left)

-- One name was to be opened, and at most so many reads took bytes.
abbrev pub AskedSoFar : List ℕ → ℕ → Option History → Option History → Type 0
AskedSoFar name most old new = (reads : ℕ) × (reads ≤ most) × (new ≡ option_map (with_load name reads false) old)

-- a name was to be opened
pub asked_open : (name : List ℕ) (old new : Option History) → new ≡ option_map (with_open name) old
    → new ≡ option_map (with_load name 0 false) old
asked_open name None new e = e
asked_open name (Some before) new e =
    e ∙ ap (λ (n : ℕ). Some (record { names = before.names ++ name ∷ []; reads = n; late_reads = before.late_reads; is_ended = false }))
    (sym (add-zero before.reads))

-- one read more
pub asked_read : (name : List ℕ) (reads count : ℕ) (old now new : Option History)
    → now ≡ option_map (with_load name reads false) old → new ≡ option_map (with_read count) now
    → new ≡ option_map (with_load name (reads + 1) (count == 0)) old
asked_read name reads count None now new e f = f ∙ ap (option_map (with_read count)) e
asked_read name reads count (Some before) now new e f =
    f ∙ ap (option_map (with_read count)) e
    ∙ ap (λ (n : ℕ). Some (record { names = before.names ++ name ∷ []; reads = n; late_reads = before.late_reads; is_ended = count == 0 }))
    (add_assoc before.reads reads 1)

-- after one read more a file is loaded
pub loads_one : (name : List ℕ) (most count : ℕ) (old now new : Option History)
    → AskedSoFar name most old now → most ≤ 16_777_216 → new ≡ option_map (with_read count) now → LoadsOne name old new
loads_one name most count old now new asked short e =
    (asked.0 + 1, count == 0, omega (arith, asked.1), asked_read name asked.0 count old now new asked.2 e)

-- after a read that took bytes
pub asked_next : (name : List ℕ) (most more count : ℕ) (old now new : Option History)
    → AskedSoFar name most old now → count ≢ 0 → most + count ≤ more → new ≡ option_map (with_read count) now
    → AskedSoFar name more old new
asked_next name most more count old now new asked some fits e = (
  asked.0 + 1,
  omega (arith, asked.1),
  rw (ne_eqb count 0 some) at (asked_read name asked.0 count old now new asked.2 e),
)
