-- The units of a file that was read are as read.
use Rattle.std.proofs.Common.{ℕ, List, Ok, All, sym, ap, subst}
use Rattle.vital_lex.specs.Outcome.{IsOutcome}
use Rattle.vital_lex.specs.Pieces.{Lexes}
use Rattle.vital_vhdl_lexemes.specs.Vhdl.{vhdl}
use Rattle.vital_lex.specs.declared.token_list.Token.{Token}
use Rattle.vital_nodes.specs.declared.unit.Role.{Role}
use Rattle.vital_nodes.specs.declared.unit.Unit.{Unit as Unit'}
use Rattle.vital_nodes.specs.declared.unit.Units.{Units}
use Rattle.vital_shapes.proofs.Along.{Source}
use Rattle.vital_vhdl.proofs.IdentifierNames.{names_of_text}
use Rattle.vital_vhdl.specs.Outcomes.{IsUnitsOf}
use Rattle.vital_nodes.proofs.Values.{WalkLaw}
use Rattle.vital_as_read.specs.AsRead.{IsUnitAsRead}
use Rattle.vital_as_read.proofs.AsRead.{units_as_read}
use Rattle.vital_as_read.proofs.Tokens.{tokens_are_sound}
use Rattle.vital_as_read.proofs.Units.{units_along}

-- the tokens of a lexed text
lexes : (text : List ℕ) (room : ℕ) (tokens : List Token) → IsOutcome vhdl text room (Ok tokens) → Lexes vhdl text tokens
lexes text room tokens (lexemes, reaches, same) = (lexemes, reaches.row, same)

pub file_as_read : WalkLaw → (file : ℕ) (role : Role) (text : List ℕ) (room : ℕ) (read : Units) → IsUnitsOf file role text room read → All IsUnitAsRead read.units
file_as_read walked file role text room read h =
    let o : Source = record { file = file; text = text } in
    let lexed = lexes text room h.tokens h.lexed in
    let sound = tokens_are_sound o h.tokens lexed (names_of_text text h.tokens lexed) in
    subst (λ (found : List Unit'). All IsUnitAsRead found) (sym (ap (λ (r : Units). r.units) h.read_is))
    (units_as_read o h.tokens h.units (units_along walked file text h.tokens h.tree h.units h.derived h.shaped) sound)
