-- Statements, by the rules of their grammar.
use Rattle.std.specs.Prelude.{ℕ, zero, suc, ◌==◌, if◌then◌else◌, List, [], ◌∷◌, Option, Some, None}
use Rattle.vital_base.specs.declared.place.Place.{Place}
use Rattle.vital_nodes.specs.declared.identifier.Identifier.{Identifier}
use Rattle.vital_nodes.specs.declared.expr.Item.{Item}
use Rattle.vital_nodes.specs.declared.expr.Reference.{Reference, roll-Reference}
use Rattle.vital_nodes.specs.declared.stmt.SignalAssignment.{SignalAssignment}
use Rattle.vital_nodes.specs.declared.stmt.Branch.{Branch, roll-Branch}
use Rattle.vital_nodes.specs.declared.stmt.If.{roll-If}
use Rattle.vital_nodes.specs.declared.stmt.Stmt.{Stmt}
use Rattle.vital_nodes.specs.declared.stmt.Stmt.TheVariants as s
use Rattle.vital_nodes.specs.declared.stmt.Process.{Process}
use Rattle.vital_nodes.specs.declared.stmt.Instance.{Instance}
use Rattle.vital_nodes.specs.declared.stmt.Block.{Block, roll-Block}
use Rattle.vital_nodes.specs.declared.stmt.Conc.{Conc}
use Rattle.vital_nodes.specs.declared.stmt.Conc.TheVariants as c
use Rattle.vital_shapes.specs.Reading.{Reader, ◌>>=◌, ◌>>◌, pure, choice, skip, place, identifier, is_written, closing, left, after, more, many}
use Rattle.vital_shapes.specs.Expressions.{expression, name, names, suffix_list, items, optional_value}
use Rattle.vital_shapes.specs.Declarations.{declarations}

-- "<=" expr [ "after" expr ] ";"
unfoldable pub signal_assignment : Reference → Reader SignalAssignment
signal_assignment target = do
  skip
  value ← expression
  delay ← optional_value
  skip
  pure (record { target = target; value = value; after = delay })

-- ":=" expr ";" | "<=" expr [ "after" expr ] ";" | ";"
unfoldable pub after_name : Place → Reference → Reader Stmt
after_name p target = do
  form ← choice
  if form == 0 then (do
    skip
    value ← expression
    skip
    pure (s.VariableAssignment p (record { target = target; value = value }))) else (if form == 1 then (signal_assignment target >>= λ x. pure (s.SignalAssignment p x)) else skip >> pure (s.Call p target))

-- The parameter reads the statements in a branch.
module _ (inner : Reader (List Stmt)) where
  -- expr "then" { seq }
  unfoldable pub branch : Reader Branch
  branch = do
    condition ← expression
    skip
    found ← inner
    pure (roll-Branch (record { condition = condition; statements = found }))

  -- [ "else" { seq } ]
  unfoldable pub otherwise : Reader (Option (List Stmt))
  otherwise = do
    form ← choice
    if form == 0 then pure None else (do
      skip
      found ← inner
      pure (Some found))

  -- expr "then" { seq } { "elsif" expr "then" { seq } }
  unfoldable pub branches : Reader (List Branch)
  branches = branch >>= λ first. more (λ _. after branch) (first ∷ [])

  -- "if" expr "then" { seq } { "elsif" expr "then" { seq } } [ "else" { seq } ] "end" "if" ";"
  unfoldable pub if_statement : Place → Reader Stmt
  if_statement p = do
    skip
    found ← branches
    last ← otherwise
    skip
    skip
    skip
    pure (s.If p (roll-If (record { branches = found; otherwise = last })))

  -- seq = id suffixes .. | "if" .. | "null" ";"
  unfoldable pub statement : Reader Stmt
  statement = do
    form ← choice
    p ← place
    if form == 0 then (name >>= λ target. after_name p target) else (if form == 1 then if_statement p else skip >> (skip >> pure (s.Null p)))

-- { seq }, with so many levels of `if` in them, or fewer; each level takes a step
unfoldable pub statements_within : ℕ → Reader (List Stmt)
statements_within zero = pure []
statements_within (suc levels) = many (λ _. statement (statements_within levels))

abbrev pub statements : Reader (List Stmt)
statements = λ i. statements_within (left i) i

-- ---- concurrent statements

-- [ "(" name { "," name } ")" ]
unfoldable pub sensitivity : Reader (List Reference)
sensitivity = do
  form ← choice
  if form == 0 then pure [] else (do
    skip
    found ← names
    skip
    pure found)

-- process = "process" [ "(" name { "," name } ")" ] [ "is" ] { decl } "begin" { seq } "end" "process" [ id ] ";"
unfoldable pub process : Reader Process
process = do
  choice
  skip
  signals ← sensitivity
  is_written
  declared ← declarations
  skip
  found ← statements
  skip
  skip
  closing
  skip
  pure (record { sensitivity = signals; declarations = declared; statements = found })

-- [ word "map" "(" items ")" ]
unfoldable pub map_items : Reader (List Item)
map_items = do
  form ← choice
  if form == 0 then pure [] else (do
    skip
    skip
    skip
    found ← items
    skip
    pure found)

-- ";" | "<=" expr [ "after" expr ] ";"
unfoldable pub after_target : Place → Reference → Reader Conc
after_target p target = do
  form ← choice
  if form == 0 then skip >> pure (c.Call p target) else (signal_assignment target >>= λ x. pure (c.SignalAssignment p x))

-- suffixes ( ";" | "<=" expr [ "after" expr ] ";" ), after an identifier
unfoldable pub unlabelled : Place → Identifier → Reader Conc
unlabelled p first = do
  found ← suffix_list
  after_target p (roll-Reference (record { identifier = first; suffixes = found }))

-- name maps ";", where maps = [ "generic" "map" "(" items ")" ] [ "port" "map" "(" items ")" ]
unfoldable pub instance : Identifier → Reader Instance
instance label = do
  called ← name
  choice
  generics ← map_items
  ports ← map_items
  skip
  pure (record { label = label; unit = called; generics = generics; ports = ports })

-- The parameter reads the statements of a block.
module _ (inner : Reader (List Conc)) where
  -- "block" [ "is" ] { decl } "begin" { conc } "end" "block" [ id ] ";"
  unfoldable pub block : Reader Block
  block = do
    skip
    is_written
    declared ← declarations
    skip
    found ← inner
    skip
    skip
    closing
    skip
    pure (roll-Block (record { declarations = declared; statements = found }))

  -- labelled = process | "component" name maps ";" | name maps ";" | "block" ..
  unfoldable pub labelled : Place → Identifier → Reader Conc
  labelled p label = do
    form ← choice
    if form == 0 then (process >>= λ x. pure (c.Process p (Some label) x)) else (if form == 1 then skip >> (instance label >>= λ x. pure (c.ComponentInstance p x)) else (if form == 2 then (instance label >>= λ x. pure (c.Instance p x)) else (block >>= λ x. pure (c.Block p label x))))

  -- id ( ":" labelled | suffixes ( ";" | "<=" expr [ "after" expr ] ";" ) )
  unfoldable pub after_identifier : Place → Reader Conc
  after_identifier p = do
    first ← identifier
    next ← choice
    if next == 0 then skip >> labelled p first else unlabelled p first

  -- conc = process | id ( ":" labelled | .. )
  unfoldable pub conc : Reader Conc
  conc = do
    form ← choice
    p ← place
    if form == 0 then (process >>= λ x. pure (c.Process p None x)) else after_identifier p

-- { conc }, with so many levels of blocks in them, or fewer; each level takes a step
unfoldable pub concs_within : ℕ → Reader (List Conc)
concs_within zero = pure []
concs_within (suc levels) = many (λ _. conc (concs_within levels))

abbrev pub concs : Reader (List Conc)
concs = λ i. concs_within (left i) i
