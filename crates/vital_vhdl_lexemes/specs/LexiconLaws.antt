-- VHDL's lexicon is one: what it has at an offset is the longest that fits there, and has a byte.
use Rattle.std.proofs.Common.{◌≡◌, ℕ, ◌+◌, ◌<◌, ◌≤◌, Bool, true, false, List, [], length, refl, ap, sym, subst, ◌∙◌, ⊎_elim, arith, Option, Some, None}
use Rattle.std.specs.Prelude.{slice_range, option_map, option_and_then, is_some}
use Rattle.std.proofs.lemmas.Bool.{cases_lt, false≢true}
use Rattle.std.proofs.lemmas.List.Edits.{between_none}
use Rattle.std.proofs.lemmas.Option.{same_Some}
use Rattle.vital_lex.specs.Lexicon.{Lexicon, IsLexicon}
use Rattle.vital_vhdl_lexemes.specs.Forms.{is_separator, lexeme_kind}
use Rattle.vital_vhdl_lexemes.specs.Longest.{longest, IsLongest, IsLexeme, is_lexeme}
use Rattle.vital_vhdl_lexemes.specs.LongestLaws.{is_longest}
use Rattle.vital_vhdl_lexemes.specs.Nesting.{nesting_after, nesting_at_word}
use Rattle.vital_vhdl_lexemes.specs.Vhdl.{vhdl, lexeme_at, separator_at}
use Rattle.vital_vhdl_lexemes.specs.declared.kinds.Kind.{Kind}
use Rattle.vital_vhdl_lexemes.specs.declared.kinds.Kind.TheVariants as kind

-- what passes a test that no bytes at all pass has a byte
pub moves : (test : List ℕ → Bool) (text : List ℕ) (at end : ℕ) → test [] ≡ false → IsLongest test text at end → at < end
moves test text at end none longest =
    ⊎_elim
    (λ forward. forward)
    (λ back.
    let from : at ≤ end = longest.forward in
    let here : end ≡ at = omega arith in
    absurd (false≢true (sym (ap (λ e. test (slice_range text at e)) here ∙ ap test (between_none text at) ∙ none) ∙ longest.passes)))
    (cases_lt at end)

pub nothing : (before : Option Kind) → lexeme_kind before [] ≡ None
unfolding lexeme_kind
nothing before = refl

kind_there : (o : Option Kind) (end : ℕ) (k : Kind) (e : ℕ) → option_map {U = Kind × ℕ} (λ x. (x, end)) o ≡ Some (k, e) → (o ≡ Some k) × (end ≡ e)
kind_there None end k e is = let no : ◌≡◌ {A = Option (Kind × ℕ)} None (Some (k, e)) = is in absurd cc
kind_there (Some x) end k e is =
    let same : ◌≡◌ {A = Kind × ℕ} (x, end) (k, e) = same_Some (x, end) (k, e) is in
    (ap (λ p. Some p.0) same, ap (λ p. p.1) same)

there : (before : Option Kind) (text : List ℕ) (at : ℕ) (found : Option ℕ) (k : Kind) (end : ℕ) → longest (is_lexeme before) text at ≡ found
    → option_and_then {U = Kind × ℕ} (λ e. option_map {U = Kind × ℕ} (λ x. (x, e)) (lexeme_kind before (slice_range text at e))) found ≡ Some (k, end) → IsLexeme before text at end k
there before text at None k end is gives = let no : ◌≡◌ {A = Option (Kind × ℕ)} None (Some (k, end)) = gives in absurd cc
there before text at (Some e) k end is gives =
    let parts = kind_there (lexeme_kind before (slice_range text at e)) e k end gives in
    subst (λ (n : ℕ). IsLexeme before text at n k) parts.1 (record { longest = is_longest (is_lexeme before) text at e is; kind_is = parts.0 })

-- what the lexicon has at an offset is the longest lexeme there
pub lexeme_there : (before : Option Kind) (text : List ℕ) (at : ℕ) (k : Kind) (end : ℕ) → lexeme_at before text at ≡ Some (k, end) → IsLexeme before text at end k
unfolding lexeme_at
lexeme_there before text at k end is = there before text at (longest (is_lexeme before) text at) k end refl is

separator_there : (text : List ℕ) (at end : ℕ) → separator_at text at ≡ Some end → IsLongest is_separator text at end
unfolding separator_at
separator_there text at end is = is_longest is_separator text at end is

-- one token nests at most one deeper
at_word_one : (before : Option Kind) (depth : ℕ) → nesting_at_word before depth ≤ depth + 1
at_word_one None depth = omega arith
at_word_one (Some kind.End) depth = omega arith
at_word_one (Some _) depth = omega arith

nests_one : (before : Option Kind) (depth : ℕ) (k : Kind) → nesting_after before depth k ≤ depth + 1
nests_one before depth kind.LeftParenthesis = omega arith
nests_one before depth kind.RightParenthesis = omega arith
nests_one before depth kind.If = at_word_one before depth
nests_one before depth kind.Block = at_word_one before depth
nests_one before depth _ = omega arith

pub vhdl_is_lexicon : IsLexicon vhdl
vhdl_is_lexicon = record {
  separator_moves = λ text at end is. let this = separator_there text at end is in (moves is_separator text at end refl this, this.within);
  lexeme_moves = λ before text at k end is.
      let this = lexeme_there before text at k end is in
      (moves (is_lexeme before) text at end (ap is_some (nothing before)) this.longest, this.longest.within);
  nests_one = nests_one;
}
