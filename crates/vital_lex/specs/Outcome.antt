-- What comes of reading a text with room for so many tokens: its tokens, or the first offset where it is refused.
use Rattle.std.specs.Prelude.{◌≡◌, ℕ, ◌<◌, ◌≤◌, List, [], ◌∷◌, ◌++◌, length, map, Result, Ok, Err}
use Rattle.vital_lex.specs.Lexicon.{Lexicon}
use Rattle.vital_lex.specs.Nesting.{nesting, IsShallow}
use Rattle.vital_lex.specs.Pieces.{Lexeme, IsNext, IsStuck, Row, token_of}
use Rattle.vital_lex.specs.declared.faults.LexError.{LexError}
use Rattle.vital_lex.specs.declared.faults.LexError.TheVariants as error
use Rattle.vital_lex.specs.declared.faults.TextFault.{TextFault}
use Rattle.vital_lex.specs.declared.faults.TextFault.TheVariants as fault
use Rattle.vital_lex.specs.declared.token_list.Token.{Token}

-- The lexemes are within both limits: at most `room` of them, and nested at most 64 deep after each.
pub record IsWithin {Kind : Type 0} (lexicon : Lexicon Kind) (room : ℕ) (lexemes : List (Lexeme Kind)) : Type 0 where
  pub few : length lexemes ≤ room
  pub shallow : IsShallow lexicon lexemes

-- Up to `at` the text is a row of pieces within the limits, and these are its lexemes.
pub record Reaches {Kind : Type 0} (lexicon : Lexicon Kind) (text : List ℕ) (room at : ℕ) (lexemes : List (Lexeme Kind)) : Type 0 where
  pub row : Row lexicon text at lexemes
  pub within : IsWithin lexicon room lexemes

-- The text is refused so, where a row of pieces within the limits ends.
abbrev pub IsRefused : {Kind : Type 0} → Lexicon Kind → List ℕ → ℕ → TextFault → Type 0
-- nothing fits at the offset
IsRefused {Kind} lexicon text room (fault.Fault at reason) =
    (lexemes : List (Lexeme Kind)) × Reaches lexicon text room at lexemes × IsStuck lexicon text lexemes at × (reason ≡ lexicon.why text at)
-- a lexeme stands at the offset, and there is no room for it
IsRefused {Kind} lexicon text room (fault.TooManyTokens at) =
    (lexemes : List (Lexeme Kind)) × (l : Lexeme Kind) × (l.start ≡ at) × Reaches lexicon text room at lexemes × IsNext lexicon text lexemes l × (length lexemes ≡ room)
-- a lexeme stands at the offset, there is room for it, and it makes the nesting 65
IsRefused {Kind} lexicon text room (fault.TooDeep at) =
    (lexemes : List (Lexeme Kind)) × (l : Lexeme Kind) × (l.start ≡ at) × Reaches lexicon text room at lexemes × IsNext lexicon text lexemes l × (length lexemes < room)
    × (nesting lexicon (lexemes ++ l ∷ []) ≡ 65)

-- What comes of a text: its tokens, where it is a row of pieces within the limits to its end, or how it is refused.
abbrev pub IsOutcome : {Kind : Type 0} → Lexicon Kind → List ℕ → ℕ → Result (List Token) TextFault → Type 0
IsOutcome {Kind} lexicon text room (Ok tokens) =
    (lexemes : List (Lexeme Kind)) × Reaches lexicon text room (length text) lexemes × (tokens ≡ map (token_of lexicon) lexemes)
IsOutcome lexicon text room (Err fault) = IsRefused lexicon text room fault

-- An answer gives what comes of the text, or that there was no memory for it.
abbrev pub Gives : Result (List Token) LexError → Result (List Token) TextFault → Type 0
Gives (Ok tokens) outcome = outcome ≡ Ok tokens
Gives (Err (error.Text fault)) outcome = outcome ≡ Err fault
Gives (Err error.NoMemory) outcome = Unit {0}
