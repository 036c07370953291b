-- What a shelf of files means.
use Rattle.std.specs.Prelude.{ℕ, ◌≡◌, ◌≤◌, ◌+◌, ◌==◌, ◌++◌, Bool, false, List, [], ◌∷◌, Option, Some, IsSome, take, if◌then◌else◌}
use Rattle.std.specs.Option.{option_map}

-- Files by name: what each name holds, or nothing where there is no file of that name.
abbrev pub Files : Type 0
Files = List ℕ → Option (List ℕ)

-- The file of this name is there, and all of it is left to be read.
abbrev pub OpensWhole : Files → List ℕ → Option (List ℕ) → Type 0
OpensWhole files name left = IsSome (files name) × (left ≡ files name)

-- The first `count` bytes of the piece are the next of those that were left, and the bytes after them are left now.
abbrev pub TakesNext : ℕ → List ℕ → Option (List ℕ) → Option (List ℕ) → Type 0
TakesNext count piece old new = (rest : List ℕ) × (old ≡ Some (take count piece ++ rest)) × (new ≡ Some rest)

-- What was asked of a shelf: the names that were to be opened, in order, those of opens that failed among them; how many
-- reads succeeded, and how many of these came after the end of the open file was answered; and whether it was answered.
pub record History : Type 0 where
  pub names : List (List ℕ)
  pub reads : ℕ
  pub late_reads : ℕ
  pub is_ended : Bool

-- The history once a name was to be opened.
abbrev pub with_open : List ℕ → History → History
with_open name before = record before { names = before.names ++ name ∷ []; is_ended = false }

-- The history once a read took so many bytes. One that takes none answers the end.
abbrev pub with_read : ℕ → History → History
with_read count before = record {
  names = before.names;
  reads = before.reads + 1;
  late_reads = if before.is_ended then before.late_reads + 1 else before.late_reads;
  is_ended = count == 0;
}

-- The history once one name was to be opened, and then so many reads succeeded, none of them after the end.
abbrev pub with_load : List ℕ → ℕ → Bool → History → History
with_load name reads is_ended before = record {
  names = before.names ++ name ∷ [];
  reads = before.reads + reads;
  late_reads = before.late_reads;
  is_ended = is_ended;
}

-- One file is loaded: its name alone is to be opened, and at most 16,777,217 reads succeed, none of them after the end.
abbrev pub LoadsOne : List ℕ → Option History → Option History → Type 0
LoadsOne name old new =
    (reads : ℕ) × (is_ended : Bool) × (reads ≤ 16_777_217) × (new ≡ option_map (with_load name reads is_ended) old)
