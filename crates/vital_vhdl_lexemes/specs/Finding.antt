-- What is found at an offset of a text.
use Rattle.std.specs.Prelude.{◌≡◌, ℕ, ◌+◌, ◌<◌, ◌≤◌, Bool, true, false, ◌||◌, ◌==◌, List, [], ◌∷◌, length, slice_index, slice_range, Option, Some, None, MatchOption}
use Rattle.std.specs.List.{list_all}
use Rattle.vital_vhdl_lexemes.specs.Bytes.{is_letter, is_digit}
use Rattle.vital_vhdl_lexemes.specs.Delimiters.{delimiters}
use Rattle.vital_vhdl_lexemes.specs.Forms.{kind_in, continues, are_underlined}
use Rattle.vital_vhdl_lexemes.specs.Longest.{IsLexeme, NoneFits, is_lexeme}
use Rattle.vital_vhdl_lexemes.specs.declared.kinds.Kind.{Kind}
use Rattle.vital_lex.specs.declared.lexicon.Found.{Found}

-- The bytes from `at` up to `end` are of the class, and the one at `end` is not, if there is one.
pub record IsRun (class : ℕ → Bool) (text : List ℕ) (at end : ℕ) : Type 0 where
  pub forward : at ≤ end
  pub within : end ≤ length text
  pub passes : list_all class (slice_range text at end) ≡ true
  pub stops : end < length text → class (slice_index text end) ≡ false

-- The bytes from `at` up to `end` are of the class, with underlines between them, and more do not follow.
pub record IsUnderlinedRun (class : ℕ → Bool) (text : List ℕ) (at end : ℕ) : Type 0 where
  pub forward : at < end
  pub within : end ≤ length text
  pub joined : are_underlined class (slice_range text at end) ≡ true
  pub stops : NoneFits (continues class) text end

-- A byte that begins an identifier or a literal, or is an apostrophe.
abbrev pub begins_word_or_literal : ℕ → Bool
begins_word_or_literal b = is_letter b || is_digit b || b == 92 || b == 34 || b == 39

-- The longest lexeme at `at` is found, or none fits there.
abbrev pub IsFound : Option Kind → List ℕ → ℕ → Option (Found Kind) → Type 0
IsFound before text at found =
    MatchOption found (NoneFits (is_lexeme before) text at) (λ f. IsLexeme before text at f.end f.kind)

-- The kind of the bytes at `at` and after it in the table of delimiters, where there are two.
abbrev pub IsCompound : List ℕ → ℕ → Option Kind → Type 0
IsCompound text at (Some kind) =
    (at + 1 < length text) × (kind_in delimiters (slice_index text at ∷ slice_index text (at + 1) ∷ []) ≡ Some kind)
IsCompound text at None =
    at + 1 < length text → kind_in delimiters (slice_index text at ∷ slice_index text (at + 1) ∷ []) ≡ None
