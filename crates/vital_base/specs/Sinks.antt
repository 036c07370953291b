-- What a sink tells of what it got.
use Rattle.std.specs.Prelude.{ℕ, ◌≡◌, ◌++◌, List, take}
use Rattle.vital_base.specs.Tallies.{Tally, count}

-- What a sink tells: that it got these bytes, in order; the tally of the bytes that it got; or nothing of them.
pub data Told : Type 0 where
  got : (bytes : List ℕ) → Told
  tallied : (tally : Tally) → Told
  untold : Told

-- What is told once more bytes came after those: still nothing where none are told.
abbrev pub appended : Told → List ℕ → Told
appended (got before) bytes = got (before ++ bytes)
appended (tallied before) bytes = tallied (count before bytes)
appended untold bytes = untold

-- A prefix of the piece was appended: none of it, all of it, or so many first bytes.
abbrev pub AppendsPrefix : Told → List ℕ → Told → Type 0
AppendsPrefix old piece new = (count : ℕ) × (new ≡ appended old (take count piece))
