-- What is found at an offset is what the lexicon has there.
use Rattle.std.proofs.Common.{◌≡◌, ℕ, ◌<◌, ◌≤◌, List, [], length, refl, ap, sym, subst, ◌∙◌, arith, Option, Some, None}
use Rattle.std.specs.Prelude.{slice_range, option_map, option_and_then, is_some, MatchOption, true, false}
use Rattle.std.proofs.lemmas.Bool.{true≢false}
use Rattle.vital_lex.specs.declared.lexicon.Found.{Found}
use Rattle.vital_vhdl_lexemes.specs.Finding.{IsFound}
use Rattle.vital_vhdl_lexemes.specs.Forms.{is_separator, lexeme_kind}
use Rattle.vital_vhdl_lexemes.specs.Longest.{longest, IsLongest, NoneFits, IsLexeme, is_lexeme}
use Rattle.vital_vhdl_lexemes.specs.LongestLaws.{longest_is, longest_none}
use Rattle.vital_vhdl_lexemes.specs.Vhdl.{lexeme_at, separator_at}
use Rattle.vital_vhdl_lexemes.specs.declared.kinds.Kind.{Kind}

pub separator_found : (text : List ℕ) (at end : ℕ) → IsLongest is_separator text at end → separator_at text at ≡ Some end
unfolding separator_at
separator_found text at end this = longest_is is_separator text at end this

pub no_separator_found : (text : List ℕ) (at : ℕ) → NoneFits is_separator text at → separator_at text at ≡ None
unfolding separator_at
no_separator_found text at none = longest_none is_separator text at none

pub lexeme_found : (before : Option Kind) (text : List ℕ) (at : ℕ) (found : Option (Found Kind)) → IsFound before text at found
    → option_map (λ f. (f.kind, f.end)) found ≡ lexeme_at before text at
unfolding lexeme_at
lexeme_found before text at None none =
    sym (ap (option_and_then (λ end. option_map (λ k. (k, end)) (lexeme_kind before (slice_range text at end)))) (longest_none (is_lexeme before) text at none))
lexeme_found before text at (Some f) this =
    sym (ap (option_and_then (λ end. option_map (λ k. (k, end)) (lexeme_kind before (slice_range text at end)))) (longest_is (is_lexeme before) text at f.end this.longest)
    ∙ ap (option_map (λ k. (k, f.end))) this.kind_is)
