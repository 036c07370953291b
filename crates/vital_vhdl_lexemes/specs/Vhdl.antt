-- The lexicon of VHDL (IEEE 1076-1993, clause 13).
use Rattle.std.specs.Prelude.{ℕ, if◌then◌else◌, ◌==◌, ◌||◌, List, slice_index, slice_range, Option, option_map, option_and_then}
use Rattle.vital_lex.specs.Lexicon.{Lexicon}
use Rattle.vital_lex.specs.declared.faults.Why.{Why}
use Rattle.vital_lex.specs.declared.faults.Why.TheVariants as why
use Rattle.vital_vhdl_lexemes.specs.Forms.{is_separator, lexeme_kind}
use Rattle.vital_vhdl_lexemes.specs.Kinds.{number}
use Rattle.vital_vhdl_lexemes.specs.Longest.{longest, is_lexeme}
use Rattle.vital_vhdl_lexemes.specs.Nesting.{nesting_after}
use Rattle.vital_vhdl_lexemes.specs.declared.kinds.Kind.{Kind}

-- A quotation mark or a backslash where nothing fits is the beginning of what is not closed.
abbrev pub why_at : List ℕ → ℕ → Why
why_at text at =
    if slice_index text at == 34 || slice_index text at == 92 then why.Unclosed else why.Character

-- the longest lexeme of any kind that fits at an offset
unfoldable pub lexeme_at : Option Kind → List ℕ → ℕ → Option (Kind × ℕ)
lexeme_at before text at =
    option_and_then (λ end. option_map (λ kind. (kind, end)) (lexeme_kind before (slice_range text at end))) (longest (is_lexeme before) text at)

unfoldable pub separator_at : List ℕ → ℕ → Option ℕ
separator_at text at = longest is_separator text at

abbrev pub vhdl : Lexicon Kind
vhdl = record { separator = separator_at; lexeme = lexeme_at; why = why_at; nesting_after = nesting_after; number = number }
