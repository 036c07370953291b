-- What the lexemes of a language are.
use Rattle.std.specs.Prelude.{◌≡◌, ℕ, ◌+◌, ◌<◌, ◌≤◌, List, length, Option, Some, None}
use Rattle.vital_lex.specs.declared.faults.Why.{Why}

-- How the texts of a language are read. An offset counts bytes from 0, and `before` is the kind of the token before an
-- offset, if there is one.
pub record Lexicon (Kind : Type 0) : Type 0 where
  -- the end of the separator that begins at an offset, if one does
  pub separator : List ℕ → ℕ → Option ℕ
  -- the kind and the end of the longest lexeme at an offset, if one fits
  pub lexeme : Option Kind → List ℕ → ℕ → Option (Kind × ℕ)
  -- why neither fits at an offset
  pub why : List ℕ → ℕ → Why
  -- the nesting behind a token of a kind, where it was so deep before
  pub nesting_after : Option Kind → ℕ → Kind → ℕ
  -- the number by which tokens and grammars name a kind
  pub number : Kind → ℕ

-- Each separator and each lexeme has a byte and ends within the text, and a token nests at most one deeper.
pub record IsLexicon {Kind : Type 0} (lexicon : Lexicon Kind) : Type 0 where
  pub separator_moves : (text : List ℕ) (at end : ℕ) → lexicon.separator text at ≡ Some end → (at < end) × (end ≤ length text)
  pub lexeme_moves : (before : Option Kind) (text : List ℕ) (at : ℕ) (kind : Kind) (end : ℕ) → lexicon.lexeme before text at ≡ Some (kind, end) → (at < end) × (end ≤ length text)
  pub nests_one : (before : Option Kind) (depth : ℕ) (kind : Kind) → lexicon.nesting_after before depth kind ≤ depth + 1

-- From an offset up to another stands one separator behind the other, and none begins at the second.
pub data Parted {Kind : Type 0} (lexicon : Lexicon Kind) (text : List ℕ) : ℕ → ℕ → Type 0 where
  last : {at : ℕ} → at ≤ length text → lexicon.separator text at ≡ None → Parted lexicon text at at
  more : {at next end : ℕ} → lexicon.separator text at ≡ Some next → Parted lexicon text next end → Parted lexicon text at end
