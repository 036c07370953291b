-- Each token of a text is a lexeme of its kind.
use Rattle.std.proofs.Common.{◌≡◌, ℕ, zero, suc, ◌<◌, List, [], ◌∷◌, ◌++◌, length, map, refl, sym, subst, arith, Option, Some, All}
use Rattle.std.specs.Prelude.{slice_range}
use Rattle.std.proofs.lemmas.List.{map-append}
use Rattle.std.proofs.lemmas.List.Elements.{All-nil, All-append}
use Rattle.vital_lex.specs.Pieces.{Lexeme, Lexes, Row, empty, separator, lexeme, token_of, last_kind}
use Rattle.vital_lex.specs.declared.token_list.Token.{Token}
use Rattle.vital_vhdl_lexemes.specs.Forms.{lexeme_kind}
use Rattle.vital_vhdl_lexemes.specs.Kinds.{number}
use Rattle.vital_vhdl_lexemes.specs.LexiconLaws.{lexeme_there}
use Rattle.vital_vhdl_lexemes.specs.Vhdl.{vhdl}
use Rattle.vital_vhdl_lexemes.specs.declared.kinds.Kind.{Kind}

abbrev IsLexemeOf : List ℕ → Token → Type 0
IsLexemeOf text t = (before : Option Kind) × (kind : Kind) × (lexeme_kind before (slice_range text t.start t.end) ≡ Some kind) × (t.kind ≡ number kind)

alone : (text : List ℕ) (t : Token) → IsLexemeOf text t → All (IsLexemeOf text) (t ∷ [])
alone text t this zero d inside = this
alone text t this (suc i) d inside = absurd (omega arith)

of_row : {text : List ℕ} {at : ℕ} {lexemes : List (Lexeme Kind)} → Row vhdl text at lexemes → All (IsLexemeOf text) (map (token_of vhdl) lexemes)
of_row {text} empty = All-nil (IsLexemeOf text)
of_row (separator row found) = of_row row
of_row {text} (lexeme {lexemes = lexemes} {l = l} row next) =
    subst (All (IsLexemeOf text)) (sym (map-append (token_of vhdl) lexemes (l ∷ [])))
    (All-append (IsLexemeOf text) (map (token_of vhdl) lexemes) (token_of vhdl l ∷ []) (of_row row)
    (alone text (token_of vhdl l) (last_kind lexemes, l.kind, (lexeme_there (last_kind lexemes) text l.start l.kind l.end next.lexeme).kind_is, refl)))

pub token_lexemes : (text : List ℕ) (tokens : List Token) → Lexes vhdl text tokens → All (IsLexemeOf text) tokens
token_lexemes text tokens (lexemes, row, same) = subst (All (IsLexemeOf text)) (sym same) (of_row row)
