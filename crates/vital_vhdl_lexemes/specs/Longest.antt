-- The longest part of a text, from an offset on, that passes a test.
use Rattle.std.specs.Prelude.{◌≡◌, ℕ, zero, suc, ◌<◌, ◌≤◌, Bool, true, false, ◌&&◌, nat_le, if◌then◌else◌, List, length, slice_range, Option, Some, None, is_some}
use Rattle.vital_vhdl_lexemes.specs.Forms.{lexeme_kind}
use Rattle.vital_vhdl_lexemes.specs.declared.kinds.Kind.{Kind}

-- The greatest number up to `n` that passes, if any does.
abbrev pub last_up_to : (ℕ → Bool) → ℕ → Option ℕ
last_up_to test zero = if test zero then Some zero else None
last_up_to test (suc n) = if test (suc n) then Some (suc n) else last_up_to test n

-- Where the longest part of the text from `at` on ends that passes, if any part does.
unfoldable pub longest : (List ℕ → Bool) → List ℕ → ℕ → Option ℕ
longest test text at = last_up_to (λ end. nat_le at end && test (slice_range text at end)) (length text)

-- The bytes of the text from `at` up to `end` pass the test, and no more bytes from `at` on do.
pub record IsLongest (test : List ℕ → Bool) (text : List ℕ) (at end : ℕ) : Type 0 where
  pub forward : at ≤ end
  pub within : end ≤ length text
  pub passes : test (slice_range text at end) ≡ true
  pub longest : (more : ℕ) → end < more → more ≤ length text → test (slice_range text at more) ≡ false

-- However many bytes are taken from `at` on, they do not pass the test.
abbrev pub NoneFits : (List ℕ → Bool) → List ℕ → ℕ → Type 0
NoneFits test text at = (end : ℕ) → at ≤ end → end ≤ length text → test (slice_range text at end) ≡ false

-- Whether bytes are a lexeme, where `before` is the kind of the token before them.
abbrev pub is_lexeme : Option Kind → List ℕ → Bool
is_lexeme before bytes = is_some (lexeme_kind before bytes)

-- The longest lexeme of any kind that fits at `at` ends at `end`, and is of this kind.
pub record IsLexeme (before : Option Kind) (text : List ℕ) (at end : ℕ) (kind : Kind) : Type 0 where
  pub longest : IsLongest (is_lexeme before) text at end
  pub kind_is : lexeme_kind before (slice_range text at end) ≡ Some kind
