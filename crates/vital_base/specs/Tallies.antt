-- The lines of a report that are counted while its bytes come.
use Rattle.std.specs.Prelude.{ℕ, ◌+◌, ◌==◌, ◌++◌, List, [], ◌∷◌, codes, length, nat_lt, if◌then◌else◌}
use Rattle.std.specs.List.{fold}
use Rattle.std.specs.Str.{bytes_eq}
use Rattle.vital_base.specs.Faults.{counted}

-- How many lines began with `event ` and how many with `glitch `, each count standing still at 2^64 - 1, and the first bytes, at most seven, of
-- the line that is not ended.
pub record Tally : Type 0 where
  pub events : ℕ
  pub glitches : ℕ
  pub head : List ℕ

-- Nothing came.
abbrev pub no_lines : Tally
no_lines = record { events = 0; glitches = 0; head = [] }

-- A count, one more where the head of a line becomes the word.
abbrev pub counted_at : List ℕ → List ℕ → ℕ → ℕ
counted_at word head count = if bytes_eq head word then counted count else count

-- The head of the line is so from now on.
abbrev pub with_head : List ℕ → Tally → Tally
with_head head t = record {
  events = counted_at (codes "event ") head t.events;
  glitches = counted_at (codes "glitch ") head t.glitches;
  head = head;
}

-- One more byte: LF, which is 10, ends the line; the bytes of a line behind its first seven change nothing.
abbrev pub with_byte : Tally → ℕ → Tally
with_byte t byte =
    if byte == 10 then record t { head = [] }
    else (if nat_lt (length t.head) 7 then with_head (t.head ++ byte ∷ []) t else t)

-- These bytes came, one by one.
abbrev pub count : Tally → List ℕ → Tally
count t bytes = fold with_byte t bytes
