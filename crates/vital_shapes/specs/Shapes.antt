-- The units of a file, by the rules of their grammar; and so the shape of a derivation.
use Rattle.std.specs.Prelude.{ℕ, ◌==◌, if◌then◌else◌, List, [], ◌∷◌, Option}
use Rattle.std.specs.Option.{option_map}
use Rattle.vital_ll.specs.declared.derivation.Step.{Step}
use Rattle.vital_lex.specs.declared.token_list.Token.{Token}
use Rattle.vital_nodes.specs.declared.unit.Unit.{Unit as Unit'}
use Rattle.vital_nodes.specs.declared.unit.Unit.TheVariants as u
use Rattle.vital_nodes.specs.declared.stmt.Conc.{Conc}
use Rattle.vital_shapes.specs.Reading.{Reader, ◌>>=◌, ◌>>◌, pure, choice, skip, place, identifier, identifiers, is_written, closing, more_lists}
use Rattle.vital_shapes.specs.Expressions.{names}
use Rattle.vital_shapes.specs.Declarations.{interfaces, declarations}
use Rattle.vital_shapes.specs.Statements.{concs}

-- [ "begin" { conc } ]
unfoldable pub entity_statements : Reader (List Conc)
entity_statements = do
  c ← choice
  if c == 0 then pure [] else skip >> concs

-- "end" [ word ] [ id ] ";"
unfoldable pub ending : Reader (Unit {0})
ending = do
  skip
  is_written
  closing
  skip

-- entity = "entity" id "is" [ generics ] [ ports ] { decl } [ "begin" { conc } ] "end" [ "entity" ] [ id ] ";"
unfoldable pub entity : Reader Unit'
entity = do
  choice
  p ← place
  skip
  id ← identifier
  skip
  generics ← interfaces
  ports ← interfaces
  declared ← declarations
  found ← entity_statements
  ending
  pure (u.Entity (record { place = p; identifier = id; generics = generics; ports = ports; declarations = declared; statements = found }))

-- arch = "architecture" id "of" id "is" { decl } "begin" { conc } "end" [ "architecture" ] [ id ] ";"
unfoldable pub arch : Reader Unit'
arch = do
  choice
  p ← place
  skip
  id ← identifier
  skip
  of_what ← identifier
  skip
  declared ← declarations
  skip
  found ← concs
  ending
  pure (u.Arch (record { place = p; identifier = id; entity = of_what; declarations = declared; statements = found }))

-- pack = "package" id "is" { decl } "end" [ "package" ] [ id ] ";"
unfoldable pub pack : Reader Unit'
pack = do
  choice
  p ← place
  skip
  id ← identifier
  skip
  declared ← declarations
  ending
  pure (u.Pack (record { place = p; identifier = id; declarations = declared }))

-- config = "configuration" id "of" id "is" "for" id "end" "for" ";" "end" [ "configuration" ] [ id ] ";"
unfoldable pub config : Reader Unit'
config = do
  choice
  p ← place
  skip
  id ← identifier
  skip
  of_what ← identifier
  skip
  skip
  for_what ← identifier
  skip
  skip
  skip
  ending
  pure (u.Config (record { place = p; identifier = id; entity = of_what; arch = for_what }))

-- "library" id { "," id } ";"
unfoldable pub library_clause : Reader (List Unit')
library_clause = skip >> (identifiers >> (skip >> pure []))

-- "use" name { "," name } ";"
unfoldable pub use_clause : Reader (List Unit')
use_clause = skip >> (names >> (skip >> pure []))

unfoldable pub unit : ℕ → Reader Unit'
unit c = if c == 3 then entity else (if c == 4 then arch else (if c == 5 then pack else config))

-- The units of what a clause or a unit of a file gives: a library clause and a use clause give none.
unfoldable pub file_part : ℕ → Reader (List Unit')
file_part c = if c == 1 then library_clause else (if c == 2 then use_clause else (unit c >>= λ x. pure (x ∷ [])))

-- file = { library clause | use clause | entity | arch | pack | config }
abbrev pub file_units : Reader (List Unit')
file_units = more_lists file_part []

-- The units of the file with this number, text and tokens, by its derivation. There are none where an identifier is missing.
abbrev pub shape : ℕ → List ℕ → List Token → List Step → Option (List Unit')
shape number text tokens tree = option_map (λ read. read.0) (file_units (record { steps = tree; tokens = tokens; text = text; file = number }))
