-- What the declarations of a cell declare for identifiers (IEEE 1076-1993, clause 4).
use Rattle.std.specs.Prelude.{ℕ, List, [], ◌++◌, map, Option, Some, None}
use Rattle.std.specs.List.{filter_map, find}
use Rattle.std.specs.Str.{bytes_eq}
use Rattle.vital_nodes.specs.declared.decl.Alias.{Alias as Alias'}
use Rattle.vital_nodes.specs.declared.decl.Decl.{Decl}
use Rattle.vital_nodes.specs.declared.decl.Decl.TheVariants as decl
use Rattle.vital_nodes.specs.declared.decl.Iface.{Iface}
use Rattle.vital_nodes.specs.declared.decl.Object.{Object as Object'}
use Rattle.vital_nodes.specs.declared.identifier.Identifier.{Identifier}
use Rattle.vital_nodes.specs.declared.unit.Arch.{Arch}
use Rattle.vital_nodes.specs.declared.unit.Entity.{Entity}
use Rattle.vital_names.specs.declared.declared.Declared.{Declared as Declared'}
use Rattle.vital_names.specs.declared.declared.Declared.TheVariants as borrowed

-- What is declared for an identifier: a generic, a port, an object (a constant, a signal or a variable) or an alias.
pub data Declared : Type 0 where
  Generic : Iface → Declared
  Port : Iface → Declared
  Object : Object' → Declared
  Alias : Alias' → Declared

-- What is borrowed of it.
abbrev pub lent : Declared' → Declared
lent (borrowed.Generic i) = Generic i.now
lent (borrowed.Port i) = Port i.now
lent (borrowed.Object o) = Object o.now
lent (borrowed.Alias a) = Alias a.now

-- The identifier that it is declared for.
abbrev pub identifier_of : Declared → Identifier
identifier_of (Generic i) = i.identifier
identifier_of (Port i) = i.identifier
identifier_of (Object o) = o.identifier
identifier_of (Alias a) = a.identifier

-- What a declaration declares. Attributes and components declare nothing that a name in an expression means.
abbrev pub declared_by : Decl → Option Declared
declared_by (decl.Attribute identifier type_mark) = None
declared_by (decl.Specification s) = None
declared_by (decl.Object o) = Some (Object o)
declared_by (decl.Alias a) = Some (Alias a)
declared_by (decl.Component c) = None

-- What an entity declares: its generics, and then its ports.
abbrev pub interface_of : Entity → List Declared
interface_of e = map (λ i. Generic i) e.generics ++ map (λ i. Port i) e.ports

-- What declarations of an architecture or of a process declare, in order.
abbrev pub declared_in : List Decl → List Declared
declared_in ds = filter_map declared_by ds

-- What an architecture declares, if there is one.
abbrev pub body_of : Option Arch → List Declared
body_of None = []
body_of (Some a) = declared_in a.declarations

-- The first of a name.
abbrev pub first_named : List ℕ → List Declared → Option Declared
first_named name ds = find (λ d. bytes_eq (identifier_of d).name name) ds
