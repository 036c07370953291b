-- What comes of reading a file: its units, or how it is refused.
use Rattle.std.specs.Prelude.{◌≡◌, ℕ, List, length, map, slice_index_or, Some, Result, Ok, Err}
use Rattle.vital_ll.specs.declared.derivation.Step.{Step}
use Rattle.vital_ll.specs.Readings as list
use Rattle.vital_lex.specs.Outcome.{IsOutcome}
use Rattle.vital_vhdl_lexemes.specs.Vhdl.{vhdl}
use Rattle.vital_lex.specs.declared.token_list.Token.{Token}
use Rattle.vital_base.specs.declared.place.Place.{Place}
use Rattle.vital_nodes.specs.declared.unit.Role.{Role}
use Rattle.vital_nodes.specs.declared.unit.Unit.{Unit as Unit'}
use Rattle.vital_nodes.specs.declared.unit.Units.{Units}
use Rattle.vital_vhdl.specs.declared.read.UnitError.{UnitError}
use Rattle.vital_vhdl.specs.declared.read.UnitError.TheVariants as error
use Rattle.vital_grammar.specs.Grammar.{grammar}
use Rattle.vital_shapes.specs.Reading.{kinds_of, place_at}
use Rattle.vital_shapes.specs.Shapes.{shape}

-- where token k begins; the end of the text counts as the last token
abbrev pub offset_of : List ℕ → List Token → ℕ → ℕ
offset_of text tokens k = slice_index_or (map (λ t. t.start) tokens) k (length text)

-- the text has tokens, the grammar refuses this one, and it stands at the place
pub record IsRefusedText (file : ℕ) (text : List ℕ) (room : ℕ) (place : Place) : Type 0 where
  pub tokens : List Token
  pub lexed : IsOutcome vhdl text room (Ok tokens)
  pub token : ℕ
  pub refused : list.IsReading grammar (kinds_of tokens) (Err token)
  pub place_is : place ≡ place_at file text (offset_of text tokens token)

-- the text has tokens, of which there is a tree, and these units are its shape
pub record IsUnitsOf (file : ℕ) (role : Role) (text : List ℕ) (room : ℕ) (read : Units) : Type 0 where
  pub tokens : List Token
  pub lexed : IsOutcome vhdl text room (Ok tokens)
  pub tree : List Step
  pub derived : list.IsReading grammar (kinds_of tokens) (Ok tree)
  pub units : List Unit'
  pub shaped : shape file text tokens tree ≡ Some units
  pub read_is : read ≡ record { role = role; units = units; tokens = length tokens }

-- what comes of a file
abbrev pub IsReading : ℕ → Role → List ℕ → ℕ → Result Units UnitError → Type 0
IsReading file role text room (Ok read) = IsUnitsOf file role text room read
IsReading file role text room (Err (error.Lex fault)) = IsOutcome vhdl text room (Err fault)
IsReading file role text room (Err (error.Refused place)) = IsRefusedText file text room place
IsReading file role text room (Err error.NoMemory) = ⊥

-- An answer gives what comes of a file, or that there was no memory for it.
abbrev pub GivesUnits : Result Units UnitError → Result Units UnitError → Type 0
GivesUnits (Ok read) outcome = outcome ≡ Ok read
GivesUnits (Err (error.Lex fault)) outcome = outcome ≡ Err (error.Lex fault)
GivesUnits (Err (error.Refused place)) outcome = outcome ≡ Err (error.Refused place)
GivesUnits (Err error.NoMemory) outcome = Unit {0}
