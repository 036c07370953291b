-- Interfaces and declarations, by the rules of their grammar.
use Rattle.std.specs.Prelude.{ℕ, ◌==◌, Bool, true, false, nat_lt, ◌&&◌, if◌then◌else◌, List, [], ◌∷◌, Option, Some, None}
use Rattle.vital_nodes.specs.declared.identifier.Identifier.{Identifier}
use Rattle.vital_nodes.specs.declared.expr.Range.{Range, roll-Range}
use Rattle.vital_nodes.specs.declared.decl.Subtype.{Subtype}
use Rattle.vital_nodes.specs.declared.decl.IfaceClass.{IfaceClass}
use Rattle.vital_nodes.specs.declared.decl.IfaceClass.TheVariants as iface_classes
use Rattle.vital_nodes.specs.declared.decl.Mode.{Mode}
use Rattle.vital_nodes.specs.declared.decl.Mode.TheVariants as modes
use Rattle.vital_nodes.specs.declared.decl.IfaceParts.{IfaceParts}
use Rattle.vital_nodes.specs.declared.decl.Iface.{Iface}
use Rattle.vital_nodes.specs.declared.decl.ObjectClass.{ObjectClass}
use Rattle.vital_nodes.specs.declared.decl.ObjectClass.TheVariants as object_classes
use Rattle.vital_nodes.specs.declared.decl.ObjectParts.{ObjectParts}
use Rattle.vital_nodes.specs.declared.decl.Designator.{Designator}
use Rattle.vital_nodes.specs.declared.decl.Designator.TheVariants as designators
use Rattle.vital_nodes.specs.declared.decl.EntityClass.{EntityClass}
use Rattle.vital_nodes.specs.declared.decl.EntityClass.TheVariants as entity_classes
use Rattle.vital_nodes.specs.declared.decl.Decl.{Decl}
use Rattle.vital_nodes.specs.declared.decl.Decl.TheVariants as d
use Rattle.vital_shapes.specs.Reading.{Reader, ◌>>=◌, ◌>>◌, pure, choice, skip, identifier, identifiers, is_written, closing, after, more_lists}
use Rattle.vital_shapes.specs.Expressions.{direction, expression, name, optional_value}

-- [ "range" expr dir expr ]
unfoldable pub bounds : Reader (Option Range)
bounds = do
  c ← choice
  if c == 0 then pure None else (do
    skip
    left ← expression
    way ← direction
    right ← expression
    pure (Some (roll-Range (record { left = left; direction = way; right = right }))))

-- sub = name [ "range" expr dir expr ]
unfoldable pub sub : Reader Subtype
sub = do
  choice
  called ← name
  range ← bounds
  pure (record { name = called; range = range })

-- ---- interfaces

unfoldable pub iface_class_of : ℕ → IfaceClass
iface_class_of c = if c == 1 then iface_classes.Constant else iface_classes.Signal

-- [ "constant" | "signal" ]
unfoldable pub iface_class : Reader (Option IfaceClass)
iface_class = do
  c ← choice
  if c == 0 then pure None else skip >> pure (Some (iface_class_of c))

unfoldable pub mode_of : ℕ → Mode
mode_of c =
    if c == 1 then modes.In else (if c == 2 then modes.Out else (if c == 3 then modes.Inout else (if c == 4 then modes.Buffer else modes.Linkage)))

-- [ mode ], which is `in` where none is written
unfoldable pub mode : Reader Mode
mode = do
  c ← choice
  if c == 0 then pure modes.In else skip >> pure (mode_of c)

abbrev pub is_none : {A : Type 0} → List A → Bool
is_none [] = true
is_none (x ∷ xs) = false

-- one interface for each identifier; the last one is marked
unfoldable pub each_iface : List Identifier → IfaceParts → List Iface
each_iface [] parts = []
each_iface (x ∷ ids) parts = record { identifier = x; parts = parts; is_last = is_none ids } ∷ each_iface ids parts

-- [ mode ] sub [ "bus" ] [ ":=" expr ]
unfoldable pub iface_parts : Option IfaceClass → Reader IfaceParts
iface_parts class = do
  way ← mode
  type ← sub
  bus ← is_written
  default ← optional_value
  pure (record { class = class; mode = way; subtype = type; bus = bus; default = default })

-- iface = [ "constant" | "signal" ] id { "," id } ":" [ mode ] sub [ "bus" ] [ ":=" expr ]
unfoldable pub iface : Reader (List Iface)
iface = do
  choice
  class ← iface_class
  ids ← identifiers
  skip
  parts ← iface_parts class
  pure (each_iface ids parts)

-- [ generics ] or [ ports ]: word "(" iface { ";" iface } ")" ";"
unfoldable pub interfaces : Reader (List Iface)
interfaces = do
  c ← choice
  if c == 0 then pure [] else (do
    skip
    skip
    first ← iface
    all ← more_lists (λ _. after iface) first
    skip
    skip
    pure all)

-- ---- declarations

-- id | "all" | "others"
unfoldable pub designator : Reader Designator
designator = do
  c ← choice
  if c == 0 then (identifier >>= λ x. pure (designators.Identifier x)) else skip >> pure (if c == 1 then designators.All else designators.Others)

unfoldable pub entity_class_of : ℕ → EntityClass
entity_class_of c =
    if c == 0 then entity_classes.Entity else (if c == 1 then entity_classes.Architecture else (if c == 2 then entity_classes.Component else (if c == 3 then entity_classes.Signal else entity_classes.Label)))

-- class = "entity" | "architecture" | "component" | "signal" | "label"
unfoldable pub entity_class : Reader EntityClass
entity_class = do
  c ← choice
  skip
  pure (entity_class_of c)

-- "of" ( id | "all" | "others" ) ":" class "is" expr ";"
unfoldable pub specification : Identifier → Reader Decl
specification id = do
  skip
  of_what ← designator
  skip
  class ← entity_class
  skip
  value ← expression
  skip
  pure (d.Specification (record { identifier = id; designator = of_what; class = class; value = value }))

-- "attribute" id ( ":" name ";" | "of" .. )
unfoldable pub attribute : Reader Decl
attribute = do
  skip
  id ← identifier
  c ← choice
  if c == 0 then (do
    skip
    type ← name
    skip
    pure (d.Attribute id type)) else specification id

unfoldable pub object_class_of : ℕ → ObjectClass
object_class_of c = if c == 1 then object_classes.Constant else (if c == 2 then object_classes.Signal else object_classes.Variable)

-- one object for each identifier; the last one is marked
unfoldable pub each_object : ObjectClass → List Identifier → ObjectParts → List Decl
each_object class [] parts = []
each_object class (x ∷ ids) parts = d.Object (record { class = class; identifier = x; parts = parts; is_last = is_none ids }) ∷ each_object class ids parts

-- ( "constant" | "signal" | "variable" ) id { "," id } ":" sub [ ":=" expr ] ";"
unfoldable pub objects : ObjectClass → Reader (List Decl)
objects class = do
  skip
  ids ← identifiers
  skip
  type ← sub
  value ← optional_value
  skip
  pure (each_object class ids (record { subtype = type; value = value }))

-- [ ":" sub ]
unfoldable pub alias_subtype : Reader (Option Subtype)
alias_subtype = do
  c ← choice
  if c == 0 then pure None else (do
    skip
    type ← sub
    pure (Some type))

-- "alias" id [ ":" sub ] "is" name ";"
unfoldable pub alias : Reader Decl
alias = do
  skip
  id ← identifier
  type ← alias_subtype
  skip
  target ← name
  skip
  pure (d.Alias (record { identifier = id; subtype = type; target = target }))

-- "component" id [ "is" ] [ generics ] [ ports ] "end" "component" [ id ] ";"
unfoldable pub component : Reader Decl
component = do
  skip
  id ← identifier
  is_written
  generics ← interfaces
  ports ← interfaces
  skip
  skip
  closing
  skip
  pure (d.Component (record { identifier = id; generics = generics; ports = ports }))

-- a declaration of one identifier
unfoldable pub single : ℕ → Reader Decl
single c = if c == 0 then attribute else (if c == 4 then alias else component)

-- decl: an attribute, objects, an alias or a component
unfoldable pub decl : Reader (List Decl)
decl = do
  c ← choice
  if nat_lt 0 c && nat_lt c 4 then objects (object_class_of c) else (single c >>= λ x. pure (x ∷ []))

-- { decl }
abbrev pub declarations : Reader (List Decl)
declarations = more_lists (λ _. decl) []
