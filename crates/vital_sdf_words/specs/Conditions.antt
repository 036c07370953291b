-- The names that conditions of an SDF file have in the names of generics.
use Rattle.std.specs.Prelude.{ℕ, zero, suc, ◌-◌, ◌==◌, Bool, true, false, nat_eq, List, [], ◌∷◌, ◌++◌, codes, filter, find, length, Option, Some, None, if◌then◌else◌}
use Rattle.std.specs.Char.{is_ascii_alphanumeric}
use Rattle.std.specs.List.{join_with_byte, slice_split, starts_with}
use Rattle.std.specs.Str.{str_to_ascii_lowercase}

abbrev pub is_underscore : ℕ → Bool
is_underscore byte = byte == 95

abbrev pub is_word : List ℕ → Bool
is_word [] = false
is_word (first ∷ others) = true

-- A name in small letters, without `_` at its ends, and with one `_` where a run of them stands: its words between underscores,
-- with one underscore between each two.
abbrev pub tidied : List ℕ → List ℕ
tidied name = join_with_byte 95 (filter is_word (slice_split is_underscore (str_to_ascii_lowercase name)))

-- The texts that are replaced, each with what is written for it; the longest first.
abbrev pub replacements : List (List ℕ × List ℕ)
replacements =
    (codes "1'b0", codes "0")
    ∷ (codes "1'b1", codes "1")
    ∷ (codes "===", codes "_eq_")
    ∷ (codes "!==", codes "_ne_")
    ∷ (codes "'b0", codes "0")
    ∷ (codes "'b1", codes "1")
    ∷ (codes "==", codes "_eq_")
    ∷ (codes "!=", codes "_ne_")
    ∷ (codes "&&", codes "_and_")
    ∷ (codes "||", codes "_or_")
    ∷ (codes "&", codes "_and_")
    ∷ (codes "|", codes "_or_")
    ∷ (codes "^", codes "_xor_")
    ∷ (codes "!", codes "not_")
    ∷ (codes "~", codes "not_")
    ∷ []

-- The first of these texts that the bytes begin with.
abbrev pub replacement_at : List ℕ → Option (List ℕ × List ℕ)
replacement_at bytes = find (λ row. starts_with nat_eq bytes row.0) replacements

-- A byte that begins none of these texts: letters and digits stay.
abbrev pub kept : ℕ → ℕ
kept byte = if is_ascii_alphanumeric byte then byte else 95

-- The bytes that are read together at the head of a text, as a number of them behind its first byte, and what is written for them.
abbrev pub step : Option (List ℕ × List ℕ) → ℕ → ℕ × List ℕ
step None first = (0, kept first ∷ [])
step (Some row) first = (length row.0 - 1, row.1)

-- What is written for a text, from left to right, where so many bytes at its head are read already.
abbrev pub replaced_after : ℕ → List ℕ → List ℕ
replaced_after read [] = []
replaced_after (suc read) (first ∷ others) = replaced_after read others
replaced_after zero (first ∷ others) =
    (step (replacement_at (first ∷ others)) first).1 ++ replaced_after (step (replacement_at (first ∷ others)) first).0 others

abbrev pub replaced : List ℕ → List ℕ
replaced text = replaced_after 0 text

-- The name of a condition, of which this is the text of its lexemes without parentheses, with nothing between them.
abbrev pub condition_name : List ℕ → List ℕ
condition_name text = tidied (replaced text)

-- The name that a string after COND gives. In it nothing is replaced.
abbrev pub quoted_condition_name : List ℕ → List ℕ
quoted_condition_name text = tidied text
