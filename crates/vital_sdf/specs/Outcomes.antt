-- What comes of reading a file: what it says, or how it is refused.
use Rattle.std.specs.Prelude.{◌≡◌, ℕ, List, length, map, slice_index_or, Result, Ok, Err}
use Rattle.vital_base.specs.declared.place.Place.{Place}
use Rattle.vital_lex.specs.Outcome.{IsOutcome}
use Rattle.vital_lex.specs.declared.token_list.Token.{Token}
use Rattle.vital_ll.specs.Readings as list
use Rattle.vital_ll.specs.declared.derivation.Step.{Step}
use Rattle.vital_sdf_grammar.specs.Grammar.{grammar}
use Rattle.vital_sdf_lexemes.specs.Sdf.{sdf}
use Rattle.vital_sdf.specs.declared.group.Group.{Group}
use Rattle.vital_sdf.specs.declared.group.SdfFile.{SdfFile}
use Rattle.vital_sdf.specs.declared.read.SdfError.{SdfError}
use Rattle.vital_sdf.specs.declared.read.SdfError.TheVariants as error
use Rattle.vital_sdf.specs.Files.{groups_of}
use Rattle.vital_sdf.specs.Reading.{Failure, place_at}

-- the kinds of tokens, by which the grammar names them
abbrev pub kinds_of : List Token → List ℕ
kinds_of tokens = map (λ t. t.kind) tokens

-- where token k begins; the end of the text counts as the last token
abbrev pub offset_of : List ℕ → List Token → ℕ → ℕ
offset_of text tokens k = slice_index_or (map (λ t. t.start) tokens) k (length text)

-- the text has tokens, the grammar refuses this one, and it stands at the place
pub record IsRefusedText (file : ℕ) (text : List ℕ) (room : ℕ) (place : Place) : Type 0 where
  pub tokens : List Token
  pub lexed : IsOutcome sdf text room (Ok tokens)
  pub token : ℕ
  pub refused : list.IsReading grammar (kinds_of tokens) (Err token)
  pub place_is : place ≡ place_at file text (offset_of text tokens token)

-- the text has tokens that the grammar takes, and this is read of them
pub record IsReadText (file : ℕ) (text : List ℕ) (room : ℕ) (tokens : List Token) (read : Result (List Group) Failure) : Type 0 where
  pub lexed : IsOutcome sdf text room (Ok tokens)
  pub tree : List Step
  pub derived : list.IsReading grammar (kinds_of tokens) (Ok tree)
  pub read_is : groups_of file text tokens ≡ read

-- what comes of a file
abbrev pub IsReading : ℕ → List ℕ → ℕ → Result SdfFile SdfError → Type 0
IsReading file text room (Ok said) =
    (tokens : List Token) × IsReadText file text room tokens (Ok said.groups) × (said.tokens ≡ length tokens)
IsReading file text room (Err (error.Lex fault)) = IsOutcome sdf text room (Err fault)
IsReading file text room (Err (error.Refused place)) = IsRefusedText file text room place
IsReading file text room (Err (error.Fault why place)) = (tokens : List Token) × IsReadText file text room tokens (Err (why, place))
IsReading file text room (Err error.NoMemory) = ⊥

-- An answer gives what comes of a file, or that there was no memory for it.
abbrev pub Gives : Result SdfFile SdfError → Result SdfFile SdfError → Type 0
Gives (Ok said) outcome = outcome ≡ Ok said
Gives (Err (error.Lex fault)) outcome = outcome ≡ Err (error.Lex fault)
Gives (Err (error.Refused place)) outcome = outcome ≡ Err (error.Refused place)
Gives (Err (error.Fault why place)) outcome = outcome ≡ Err (error.Fault why place)
Gives (Err error.NoMemory) outcome = Unit {0}
