-- The parts of declarations by what is asked of the names in them.
use Rattle.std.specs.Prelude.{ℕ, Bool, ◌&&◌, ◌||◌, List, [], ◌∷◌, ◌++◌, Option, Some, None, codes, is_some, if◌then◌else◌}
use Rattle.std.specs.Str.{bytes_eq}
use Rattle.vital_nodes.specs.declared.decl.Alias.{Alias}
use Rattle.vital_nodes.specs.declared.decl.Decl.{Decl}
use Rattle.vital_nodes.specs.declared.decl.Decl.TheVariants as decl
use Rattle.vital_nodes.specs.declared.decl.Iface.{Iface}
use Rattle.vital_nodes.specs.declared.decl.Object.{Object}
use Rattle.vital_nodes.specs.declared.decl.Specification.{Specification}
use Rattle.vital_nodes.specs.declared.decl.Subtype.{Subtype}
use Rattle.vital_nodes.specs.declared.expr.Reference.{Reference}
use Rattle.vital_nodes.specs.Nodes.{Node, Declaration, Expression, Name, expression_if_there, parts_of, range_if_there}
use Rattle.vital_level0.specs.Clauses.{is_true}
use Rattle.vital_level0.specs.DefaultWords.{default_word}

-- ---- parts in which it is asked what names mean

-- The name of a type is read by its text: it is asked what stands in its parentheses, and behind `range`.
abbrev pub asked_of_subtype : Subtype → List Node
asked_of_subtype s = parts_of (Name s.name) ++ range_if_there s.range

abbrev pub asked_of_subtype_if_there : Option Subtype → List Node
asked_of_subtype_if_there None = []
asked_of_subtype_if_there (Some s) = asked_of_subtype s

-- A word that the default of a generic is for its type is read by its text: nothing is asked about it.
abbrev pub asked_of_default : Iface → List Node
asked_of_default g = if is_some (default_word g) then [] else expression_if_there g.parts.default

-- What identifiers that are declared together share is asked about once.
abbrev pub asked_of_generic : Iface → List Node
asked_of_generic g = if g.is_last then asked_of_subtype g.parts.subtype ++ asked_of_default g else []

abbrev pub asked_of_port : Iface → List Node
asked_of_port p = if p.is_last then asked_of_subtype p.parts.subtype ++ expression_if_there p.parts.default else []

abbrev pub asked_of_object : Object → List Node
asked_of_object o = if o.is_last then asked_of_subtype o.parts.subtype ++ expression_if_there o.parts.value else []

abbrev pub asked_of_alias : Alias → List Node
asked_of_alias a = asked_of_subtype_if_there a.subtype ++ Name a.target ∷ []

-- Nothing is asked about attributes and components.
abbrev pub asked_of_decl : Decl → List Node
asked_of_decl (decl.Attribute identifier type_mark) = []
asked_of_decl (decl.Specification s) = []
asked_of_decl (decl.Object o) = asked_of_object o
asked_of_decl (decl.Alias a) = asked_of_alias a
asked_of_decl (decl.Component c) = []

-- ---- parts of attributes and components, which stand apart

-- The attributes by which a cell says what its level is.
abbrev pub is_level_attribute : List ℕ → Bool
is_level_attribute name = bytes_eq name (codes "vital_level0") || bytes_eq name (codes "vital_level1")

-- Their TRUE is read by its text: nothing is asked about it.
abbrev pub apart_of_specification : Specification → List Node
apart_of_specification s = if is_level_attribute s.identifier.name && is_true s.value then [] else Expression s.value ∷ []

abbrev pub apart_of_decl : Decl → List Node
apart_of_decl (decl.Attribute identifier type_mark) = parts_of (Declaration (decl.Attribute identifier type_mark))
apart_of_decl (decl.Specification s) = apart_of_specification s
apart_of_decl (decl.Object o) = []
apart_of_decl (decl.Alias a) = []
apart_of_decl (decl.Component c) = parts_of (Declaration (decl.Component c))

-- ---- values
abbrev pub value_of_object : Object → List Node
value_of_object o = if o.is_last then expression_if_there o.parts.value else []

abbrev pub value_of_decl : Decl → List Node
value_of_decl (decl.Attribute identifier type_mark) = []
value_of_decl (decl.Specification s) = []
value_of_decl (decl.Object o) = value_of_object o
value_of_decl (decl.Alias a) = []
value_of_decl (decl.Component c) = []

-- ---- names of types
abbrev pub type_of_iface : Iface → Option Reference
type_of_iface i = if i.is_last then Some i.parts.subtype.name else None

abbrev pub type_of_object : Object → Option Reference
type_of_object o = if o.is_last then Some o.parts.subtype.name else None

abbrev pub type_of_alias : Option Subtype → Option Reference
type_of_alias None = None
type_of_alias (Some s) = Some s.name

abbrev pub type_of_decl : Decl → Option Reference
type_of_decl (decl.Attribute identifier type_mark) = None
type_of_decl (decl.Specification s) = None
type_of_decl (decl.Object o) = type_of_object o
type_of_decl (decl.Alias a) = type_of_alias a.subtype
type_of_decl (decl.Component c) = None
