-- A text as a row of pieces: separators and lexemes.
use Rattle.std.specs.Prelude.{◌≡◌, ℕ, ◌<◌, List, [], ◌∷◌, ◌++◌, length, map, Option, Some, None}
use Rattle.vital_lex.specs.Lexicon.{Lexicon}
use Rattle.vital_lex.specs.declared.token_list.Token.{Token}

-- A lexeme of a text: its kind, the offset of its first byte, and the offset after its last.
pub record Lexeme (Kind : Type 0) : Type 0 where
  pub kind : Kind
  pub start : ℕ
  pub end : ℕ

-- The kind of the last of the lexemes, if there is one.
abbrev pub last_kind : {Kind : Type 0} → List (Lexeme Kind) → Option Kind
last_kind [] = None
last_kind (l ∷ []) = Some l.kind
last_kind (l ∷ k ∷ ls) = last_kind (k ∷ ls)

-- This lexeme stands in the text after those before it: no separator begins there, and it is the longest that fits.
pub record IsNext {Kind : Type 0} (lexicon : Lexicon Kind) (text : List ℕ) (before : List (Lexeme Kind)) (l : Lexeme Kind) : Type 0 where
  pub no_separator : lexicon.separator text l.start ≡ None
  pub lexeme : lexicon.lexeme (last_kind before) text l.start ≡ Some (l.kind, l.end)

-- Neither a separator nor a lexeme fits at `at` after these lexemes, and the text has not ended.
pub record IsStuck {Kind : Type 0} (lexicon : Lexicon Kind) (text : List ℕ) (before : List (Lexeme Kind)) (at : ℕ) : Type 0 where
  pub inside : at < length text
  pub no_separator : lexicon.separator text at ≡ None
  pub no_lexeme : lexicon.lexeme (last_kind before) text at ≡ None

-- The text up to an offset is a row of pieces, each a separator where one begins and else the longest lexeme that fits, and
-- these are its lexemes in order.
pub data Row {Kind : Type 0} (lexicon : Lexicon Kind) (text : List ℕ) : ℕ → List (Lexeme Kind) → Type 0 where
  empty : Row lexicon text 0 []
  separator : {at end : ℕ} {lexemes : List (Lexeme Kind)} → Row lexicon text at lexemes → lexicon.separator text at ≡ Some end → Row lexicon text end lexemes
  lexeme : {lexemes : List (Lexeme Kind)} {l : Lexeme Kind} → Row lexicon text l.start lexemes → IsNext lexicon text lexemes l → Row lexicon text l.end (lexemes ++ l ∷ [])

-- The token of a lexeme: the number of its kind, and its place.
abbrev pub token_of : {Kind : Type 0} → Lexicon Kind → Lexeme Kind → Token
token_of lexicon l = record { kind = lexicon.number l.kind; start = l.start; end = l.end }

-- These are the tokens of the text: it is a row of pieces to its end, and they are its lexemes.
abbrev pub Lexes : {Kind : Type 0} → Lexicon Kind → List ℕ → List Token → Type 0
Lexes {Kind} lexicon text tokens = (lexemes : List (Lexeme Kind)) × Row lexicon text (length text) lexemes × (tokens ≡ map (token_of lexicon) lexemes)

-- The text has its fault at this offset: after a row of pieces up to there nothing fits.
abbrev pub LexFault : {Kind : Type 0} → Lexicon Kind → List ℕ → ℕ → Type 0
LexFault {Kind} lexicon text at = (lexemes : List (Lexeme Kind)) × Row lexicon text at lexemes × IsStuck lexicon text lexemes at
