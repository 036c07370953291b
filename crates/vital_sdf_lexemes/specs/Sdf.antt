-- The lexicon of SDF (IEEE 1497).
use Rattle.std.specs.Prelude.{ℕ, ◌+◌, ◌-◌, ◌==◌, ◌||◌, if◌then◌else◌, List, drop, slice_index, Option, option_map}
use Rattle.vital_lex.specs.declared.faults.Why.{Why}
use Rattle.vital_lex.specs.declared.faults.Why.TheVariants as why
use Rattle.vital_sdf_lexemes.specs.Kinds.{number}
use Rattle.vital_sdf_lexemes.specs.Lexemes.{lexeme}
use Rattle.vital_lex.specs.Lexicon.{Lexicon}
use Rattle.vital_sdf_lexemes.specs.Separators.{separator_length}
use Rattle.vital_sdf_lexemes.specs.declared.kinds.Kind.{Kind}
use Rattle.vital_sdf_lexemes.specs.declared.kinds.Kind.TheVariants as kind

-- A `"` where nothing fits begins a string that is not closed, and a `/` a comment.
abbrev pub why_at : List ℕ → ℕ → Why
why_at text at =
    if slice_index text at == 34 || slice_index text at == 47 then why.Unclosed else why.Character

-- The open parentheses after a token of this kind, where there were `depth` before. They do not fall below 0.
abbrev pub nesting_after : Option Kind → ℕ → Kind → ℕ
nesting_after before depth kind.LeftParenthesis = depth + 1
nesting_after before depth kind.RightParenthesis = depth - 1
nesting_after before depth _ = depth

-- How an SDF text is read: its separators and lexemes are those of the text that is left at an offset.
abbrev pub sdf : Lexicon Kind
sdf = record {
  separator = λ text at. option_map (λ count. at + count) (separator_length (drop at text));
  lexeme = λ before text at. option_map (λ found. (found.0, at + found.1)) (lexeme before (drop at text));
  why = why_at;
  nesting_after = nesting_after;
  number = number;
}
