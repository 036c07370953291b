-- What a netlist unit declares: the ports of an entity, and the declarations of it and of an architecture (IEEE 1076-1993, clause 1).
use Rattle.std.specs.Prelude.{List, map, ◌++◌, Option, Some, None}
use Rattle.std.specs.List.{filter_map}
use Rattle.vital_base.specs.declared.place.Place.{Place}
use Rattle.vital_nodes.specs.declared.decl.Decl.{Decl}
use Rattle.vital_nodes.specs.declared.decl.Decl.TheVariants as decl
use Rattle.vital_nodes.specs.declared.decl.Iface.{Iface}
use Rattle.vital_nodes.specs.declared.decl.Object.{Object}
use Rattle.vital_nodes.specs.declared.decl.ObjectClass.{ObjectClass}
use Rattle.vital_nodes.specs.declared.decl.ObjectClass.TheVariants as class
use Rattle.vital_nodes.specs.declared.identifier.Identifier.{Identifier}
use Rattle.vital_nodes.specs.declared.unit.Arch.{Arch}
use Rattle.vital_nodes.specs.declared.unit.Entity.{Entity}
use Rattle.vital_structure.specs.declared.content.Content.{Content as Content'}
use Rattle.vital_structure.specs.declared.content.Content.TheVariants as borrowed
use Rattle.vital_structure.specs.Signals.{UnitSignal, object_signal, port_signal}
use Rattle.vital_structure.specs.Signals as signals

-- What a port or a declaration gives its unit: a port or a signal; one with a type or a default that it may not have, by its identifier;
-- what is declared in no netlist, by its place; or nothing.
pub data Content : Type 0 where
  Signal : UnitSignal → Content
  WrongType : Identifier → Content
  NotStructural : Place → Content
  Nothing : Content

-- What is borrowed of it.
abbrev pub lent : Content' → Content
lent (borrowed.Signal s) = Signal (signals.lent s)
lent (borrowed.WrongType i) = WrongType i.now
lent (borrowed.NotStructural place) = NotStructural place
lent borrowed.Nothing = Nothing

abbrev pub signal_content : Identifier → Option UnitSignal → Content
signal_content identifier None = WrongType identifier
signal_content identifier (Some s) = Signal s

abbrev pub content_of_port : Iface → Content
content_of_port i = signal_content i.identifier (port_signal i)

abbrev pub content_of_object : ObjectClass → Object → Content
content_of_object class.Constant o = NotStructural o.identifier.place
content_of_object class.Signal o = signal_content o.identifier (object_signal o)
content_of_object class.Variable o = NotStructural o.identifier.place

-- Attributes and components have no effect.
abbrev pub content_of_decl : Decl → Content
content_of_decl (decl.Attribute identifier type) = Nothing
content_of_decl (decl.Specification s) = Nothing
content_of_decl (decl.Object o) = content_of_object o.«class» o
content_of_decl (decl.Alias a) = NotStructural a.identifier.place
content_of_decl (decl.Component c) = Nothing

-- The ports, and then the declarations of the entity and of the architecture.
abbrev pub contents : Entity → Arch → List Content
contents e a =
    map content_of_port e.ports
    ++ map content_of_decl e.declarations
    ++ map content_of_decl a.declarations

-- ---- the ports and signals among contents

abbrev pub signal_in : Content → Option UnitSignal
signal_in (Signal s) = Some s
signal_in _ = None

abbrev pub signals_in : List Content → List UnitSignal
signals_in cs = filter_map signal_in cs
