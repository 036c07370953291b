-- The laws of the lexicon of SDF.
use Rattle.std.proofs.Common.{◌≡◌, ℕ, ◌+◌, ◌<◌, ◌≤◌, List, length, drop, ap, arith, Option, Some, None, length-drop}
use Rattle.std.specs.Prelude.{IfSome, option_map}
use Rattle.std.specs.Option.{option_map_or}
use Rattle.std.proofs.lemmas.Option.{none-some}
use Rattle.vital_lex.specs.Lexicon.{IsLexicon}
use Rattle.vital_sdf_lexemes.specs.Sdf.{sdf, nesting_after}
use Rattle.vital_sdf_lexemes.specs.declared.kinds.Kind.{Kind}
use Rattle.vital_sdf_lexemes.specs.Separators.{separator_length}
use Rattle.vital_sdf_lexemes.specs.Lexemes.{lexeme}
use Rattle.vital_sdf_lexemes.specs.Lengths.{Fits, LexemeFits, separator_within, lexeme_within}

separator_ends : (text : List ℕ) (at end : ℕ) (o : Option ℕ) → IfSome o (Fits (drop at text)) → option_map (λ n. at + n) o ≡ Some end → (at < end) × (end ≤ length text)
separator_ends text at end None fits found = absurd (none-some end found)
separator_ends text at end (Some n) fits found =
    let same : at + n ≡ end = cc in
    let size = length-drop at text in
    (omega (arith, same, fits.0), omega (arith, same, fits.0, fits.1, size))

lexeme_ends : (text : List ℕ) (at : ℕ) (k : Kind) (end : ℕ) (o : Option (Kind × ℕ)) → IfSome o (LexemeFits (drop at text)) → option_map {U = Kind × ℕ} (λ l. (l.0, at + l.1)) o ≡ Some (k, end) → (at < end) × (end ≤ length text)
lexeme_ends text at k end None fits found = absurd (none-some (k, end) found)
lexeme_ends text at k end (Some l) fits found =
    let ends : at + l.1 ≡ end = ap (λ (o : Option (Kind × ℕ)). option_map_or (λ p. p.1) o at) found in
    let size = length-drop at text in
    (omega (arith, ends, fits.0), omega (arith, ends, fits.0, fits.1, size))

nests : (before : Option Kind) (depth : ℕ) (k : Kind) → nesting_after before depth k ≤ depth + 1
nests before depth k = grind arith

pub sdf_is_lexicon : IsLexicon sdf
sdf_is_lexicon = record {
  separator_moves = λ text at end found. separator_ends text at end (separator_length (drop at text)) (separator_within (drop at text)) found;
  lexeme_moves = λ before text at k end found. lexeme_ends text at k end (lexeme before (drop at text)) (lexeme_within before (drop at text)) found;
  nests_one = nests;
}
