-- Units and cells as they are read from files.
use Rattle.std.specs.Prelude.{◌≡◌, true, Bool, All, AllPairs, List, [], ◌∷◌, ◌++◌, Option, Some, None, find}
use Rattle.std.specs.List.{filter_map, flat_map}
use Rattle.std.specs.Option.{option_map}
use Rattle.vital_base.specs.Places.{is_before}
use Rattle.vital_library.specs.Constants.{constants_of}
use Rattle.vital_names.specs.Declarations.{Declared, body_of, declared_in, identifier_of, interface_of}
use Rattle.vital_names.specs.Sites.{Cell}
use Rattle.vital_names.specs.Viewpoints.{is_last}
use Rattle.vital_nodes.specs.IdentifierNames.{IsIdentifierName}
use Rattle.vital_nodes.specs.Nodes.{Node, Declaration, Interface, Concurrent, Sequential, Expression, Item, Name, sequentials}
use Rattle.vital_nodes.specs.Walk.{nodes_of_all}
use Rattle.vital_nodes.specs.declared.decl.Decl.{Decl}
use Rattle.vital_nodes.specs.declared.decl.Decl.TheVariants as decl
use Rattle.vital_nodes.specs.declared.decl.Iface.{Iface}
use Rattle.vital_nodes.specs.declared.decl.Object.{Object}
use Rattle.vital_nodes.specs.declared.decl.ObjectClass.{ObjectClass}
use Rattle.vital_nodes.specs.declared.decl.ObjectParts.{ObjectParts}
use Rattle.vital_nodes.specs.declared.identifier.Identifier.{Identifier}
use Rattle.vital_nodes.specs.declared.stmt.Conc.{Conc}
use Rattle.vital_nodes.specs.declared.stmt.Conc.TheViews.{out-Conc}
use Rattle.vital_nodes.specs.declared.stmt.Process.{Process}
use Rattle.vital_nodes.specs.declared.stmt.Stmt.{Stmt}
use Rattle.vital_nodes.specs.declared.unit.Arch.{Arch}
use Rattle.vital_nodes.specs.declared.unit.Entity.{Entity}
use Rattle.vital_nodes.specs.declared.unit.Unit.{Unit as Unit'}
use Rattle.vital_nodes.specs.declared.unit.Unit.TheVariants as unit
use Rattle.vital_nodes.specs.declared.unit.Units.{Units}
use Rattle.vital_uses.specs.Nodes.{declarations_in, declarations_of}
use Rattle.vital_uses.specs.Statements.{processes, statements}

-- What is declared stands before something else that is.
abbrev pub StandsBefore : Declared → Declared → Type 0
StandsBefore d e = is_before (identifier_of d).place (identifier_of e).place ≡ true

-- What is declared has an identifier for a name.
abbrev pub IsNamed : Declared → Type 0
IsNamed d = IsIdentifierName (identifier_of d).name

-- ---- what is declared together

-- What it has in common with those that are declared together with it, the last of them has too, and there is a last one.
abbrev pub IsLike : {A C : Type 0} → (A → C) → A → Option A → Type 0
IsLike common x last = option_map common last ≡ Some (common x)

-- Each of a list is like the last of those that are declared together with it: the first from it on that is a last one.
abbrev pub AreAlike : {A C : Type 0} → (A → Bool) → (A → C) → List A → Type 0
AreAlike last common [] = Unit {0}
AreAlike last common (x ∷ xs) = IsLike common x (find last (x ∷ xs)) × AreAlike last common xs

-- What an object has in common with those that are declared together with it: its class, its subtype and its value.
abbrev pub common_of : Decl → Option (ObjectClass × ObjectParts)
common_of (decl.Attribute identifier type_mark) = None
common_of (decl.Specification s) = None
common_of (decl.Object o) = Some (o.«class», o.parts)
common_of (decl.Alias a) = None
common_of (decl.Component c) = None

-- The objects among declarations.
abbrev pub AreTogether : List Decl → Type 0
AreTogether ds = AreAlike is_last common_of ds

-- The same of generics or ports, which have all but their identifiers in common.
abbrev pub AreInterfaceTogether : List Iface → Type 0
AreInterfaceTogether is = AreAlike (λ i. i.is_last) (λ i. i.parts) is

-- The same of constants of packages, which have their subtype and their value in common.
abbrev pub AreConstantsAlike : List Object → Type 0
AreConstantsAlike os = AreAlike (λ o. o.is_last) (λ o. o.parts) os

-- The constants of all packages of files, one package behind another.
abbrev pub AreConstantsTogether : List Units → Type 0
AreConstantsTogether files = AreConstantsAlike (constants_of files)

-- ---- names

-- The identifier that a name begins with. No other node has one.
abbrev pub first_identifier : Node → Option Identifier
first_identifier (Declaration d) = None
first_identifier (Interface i) = None
first_identifier (Concurrent c) = None
first_identifier (Sequential s) = None
first_identifier (Expression e) = None
first_identifier (Item i) = None
first_identifier (Name r) = Some r.identifier

-- Those of all names among statements, in order.
abbrev pub names_among : List Stmt → List Identifier
names_among ss = filter_map first_identifier (nodes_of_all (sequentials ss))

abbrev pub PrecedesIdentifier : Identifier → Identifier → Type 0
PrecedesIdentifier i j = is_before i.place j.place ≡ true

-- What is declared stands before each of some identifiers.
abbrev pub StandsBeforeAll : List Identifier → Declared → Type 0
StandsBeforeAll is d = All (PrecedesIdentifier (identifier_of d)) is

-- ---- units

-- What an entity declares has identifiers for names and stands in the order of its text, and what is declared together is alike.
pub record IsEntityAsRead (entity : Entity) : Type 0 where
  pub named : All IsNamed (interface_of entity)
  pub in_order : AllPairs StandsBefore (interface_of entity)
  pub generics_together : AreInterfaceTogether entity.generics
  pub ports_together : AreInterfaceTogether entity.ports

-- The same of what a process declares, which stands behind what is declared around it; and each name in its statements begins before the
-- next one, and behind all that is declared there.
pub record IsProcessAsRead (outer : List Declared) (p : Process) : Type 0 where
  pub named : All IsNamed (declared_in p.declarations)
  pub in_order : AllPairs StandsBefore (declared_in p.declarations)
  pub behind : All (λ d. All (StandsBefore d) (declared_in p.declarations)) outer
  pub together : AreTogether p.declarations
  pub names_in_order : AllPairs PrecedesIdentifier (names_among p.statements)
  pub names_behind : All (StandsBeforeAll (names_among p.statements)) (outer ++ declared_in p.declarations)

-- What a concurrent statement declares itself, which is a block or a process.
abbrev pub declared_by_statement : Conc → List Declared
declared_by_statement c = declared_in (declarations_in (out-Conc c))

-- All that an architecture declares, if there is one: itself, and in its blocks and processes.
abbrev pub all_declared : Option Arch → List Declared
all_declared arch = body_of arch ++ flat_map declared_by_statement (statements arch)

-- The same of what an architecture declares, if there is one, and of each of its processes; and what its blocks and processes declare
-- stands in the order of the text too.
pub record IsArchAsRead (arch : Option Arch) : Type 0 where
  pub named : All IsNamed (body_of arch)
  pub in_order : AllPairs StandsBefore (body_of arch)
  pub all_in_order : AllPairs StandsBefore (all_declared arch)
  pub together : AreTogether (declarations_of arch)
  pub processes : All (IsProcessAsRead (body_of arch)) (processes arch)

-- The same of a unit. Of a package it is asked that what is declared together is alike. A configuration is no part of a cell.
abbrev pub IsUnitAsRead : Unit' → Type 0
IsUnitAsRead (unit.Entity e) = IsEntityAsRead e
IsUnitAsRead (unit.Arch a) = IsArchAsRead (Some a)
IsUnitAsRead (unit.Pack p) = AreTogether p.declarations
IsUnitAsRead (unit.Config c) = Unit {0}

-- ---- cells

-- The entity and the architecture of a cell are as read, and constants that are declared together in a package of its library are alike. They
-- may stand in different files.
pub record IsAsRead (cell : Cell) : Type 0 where
  pub entity : IsEntityAsRead cell.entity
  pub arch : IsArchAsRead cell.arch
  pub packages : AreConstantsTogether cell.files
