-- Where the units of a file stand, from what their shape and their tokens are.
use Rattle.std.proofs.Common.{◌≡◌, ℕ, List, Ok, All, AllPairs, sym, ap, subst, ◌∙◌}
use Rattle.vital_base.specs.declared.place.Place.{Place}
use Rattle.vital_lex.specs.Outcome.{IsOutcome}
use Rattle.vital_lex.specs.Pieces.{Lexes}
use Rattle.vital_vhdl_lexemes.specs.Vhdl.{vhdl}
use Rattle.vital_lex.specs.declared.token_list.Token.{Token}
use Rattle.vital_nodes.specs.declared.unit.Role.{Role}
use Rattle.vital_nodes.specs.declared.unit.Unit.{Unit as Unit'}
use Rattle.vital_nodes.specs.declared.unit.Units.{Units}
use Rattle.vital_shapes.specs.Reading.{place_at}
use Rattle.vital_shapes.specs.Standing.{IsAtToken, IsNotAfter, places_of_units}
use Rattle.vital_vhdl.specs.Outcomes.{IsUnitsOf}

-- the units that were read are those of the shape
units_are : {file : ℕ} {role : Role} {text : List ℕ} {room : ℕ} {read : Units} (h : IsUnitsOf file role text room read) → h.units ≡ read.units
units_are h = sym (ap (λ (r : Units). r.units) h.read_is)

-- what stands at a token of a file has the number of the file
file_is : (file : ℕ) (text : List ℕ) (tokens : List Token) (p : Place) → IsAtToken file text tokens p → p.file ≡ file
unfolding place_at
file_is file text tokens p (t, within, here) = ap (λ (q : Place). q.file) here

pub in_file : (file : ℕ) (role : Role) (text : List ℕ) (room : ℕ) (read : Units) (h : IsUnitsOf file role text room read)
    → All (IsAtToken file text h.tokens) (places_of_units h.units) → All (λ p. p.file ≡ file) (places_of_units read.units)
in_file file role text room read h stand =
    subst (λ (us : List Unit'). All (λ p. p.file ≡ file) (places_of_units us)) (units_are h)
    (λ i p lt. file_is file text h.tokens _ (stand i p lt))

pub in_order : (file : ℕ) (role : Role) (text : List ℕ) (room : ℕ) (read : Units) (h : IsUnitsOf file role text room read)
    → AllPairs IsNotAfter (places_of_units h.units) → AllPairs IsNotAfter (places_of_units read.units)
in_order file role text room read h stand = subst (λ (us : List Unit'). AllPairs IsNotAfter (places_of_units us)) (units_are h) stand

-- the tokens of a lexed text
pub lexes : (text : List ℕ) (room : ℕ) (tokens : List Token) → IsOutcome vhdl text room (Ok tokens) → Lexes vhdl text tokens
lexes text room tokens (lexemes, reaches, same) = (lexemes, reaches.row, same)
