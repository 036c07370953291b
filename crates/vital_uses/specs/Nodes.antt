-- The nodes of a cell in which it is asked what names mean.
use Rattle.std.specs.Prelude.{List, [], ◌++◌, Option, Some, None}
use Rattle.std.specs.List.{filter_map, flat_map}
use Rattle.vital_nodes.specs.declared.decl.Decl.{Decl}
use Rattle.vital_nodes.specs.declared.decl.Iface.{Iface}
use Rattle.vital_nodes.specs.declared.expr.Reference.{Reference}
use Rattle.vital_nodes.specs.declared.stmt.Conc.{Conc}
use Rattle.vital_nodes.specs.declared.stmt.Conc.TheOpen.{Conc-F}
use Rattle.vital_nodes.specs.declared.stmt.Conc.TheViews.{out-Conc}
use Rattle.vital_nodes.specs.declared.stmt.Process.{Process}
use Rattle.vital_nodes.specs.declared.unit.Arch.{Arch}
use Rattle.vital_nodes.specs.declared.unit.Entity.{Entity as Entity'}
use Rattle.vital_nodes.specs.Layers.{ConcLayer}
use Rattle.vital_nodes.specs.Nodes.{Node, Concurrent, names, parts_of, sequentials}
use Rattle.vital_nodes.specs.Places.{identifier_of_decl}
use Rattle.vital_names.specs.declared.site.CellUnit.TheVariants.{Entity, Architecture}
use Rattle.vital_names.specs.Sites.{Cell}
use Rattle.vital_names.specs.Viewpoints.{is_last}
use Rattle.vital_uses.specs.Parts.{asked_of_decl, asked_of_generic, asked_of_port, type_of_decl, type_of_iface}
use Rattle.vital_uses.specs.Sited.{Sited, SitedNode, seen_from, seen_from_themselves, sited}
use Rattle.vital_uses.specs.Statements.{statements}

-- Generics or ports, and declarations of the architecture or of a process of it, with their sites.
abbrev pub sited_interface : List Iface → List (Sited Iface)
sited_interface is = sited (λ i. i.identifier.place) (λ i. i.is_last) Entity None is

abbrev pub sited_declarations : Option Process → List Decl → List (Sited Decl)
sited_declarations process ds = sited (λ d. (identifier_of_decl d).place) is_last Architecture process ds

-- Parts of declarations and all that they hold, each seen from the site of its declaration.
abbrev pub nodes_in : {A : Type 0} → (A → List Node) → List (Sited A) → List SitedNode
nodes_in parts ds = flat_map (λ d. seen_from d.site (parts d.declaration)) ds

-- ---- outside of processes
abbrev pub generic_nodes : List Iface → List SitedNode
generic_nodes gs = nodes_in asked_of_generic (sited_interface gs)

abbrev pub port_nodes : List Iface → List SitedNode
port_nodes ps = nodes_in asked_of_port (sited_interface ps)

abbrev pub declaration_nodes : Option Process → List Decl → List SitedNode
declaration_nodes process ds = nodes_in asked_of_decl (sited_declarations process ds)

-- A block gives its declarations, and its statements give their own nodes. A process gives nothing here.
abbrev pub nodes_of_layer : Conc → ConcLayer → List SitedNode
nodes_of_layer c (Conc-F.Process place label p) = []
nodes_of_layer c (Conc-F.ComponentInstance place i) = seen_from_themselves None (parts_of (Concurrent c))
nodes_of_layer c (Conc-F.Instance place i) = seen_from_themselves None (parts_of (Concurrent c))
nodes_of_layer c (Conc-F.Block place label b) = declaration_nodes None b.declarations
nodes_of_layer c (Conc-F.Call place name) = seen_from_themselves None (parts_of (Concurrent c))
nodes_of_layer c (Conc-F.SignalAssignment place a) = seen_from_themselves None (parts_of (Concurrent c))

abbrev pub nodes_outside : Conc → List SitedNode
nodes_outside c = nodes_of_layer c (out-Conc c)

-- What an architecture declares, if there is one.
abbrev pub declarations_of : Option Arch → List Decl
declarations_of None = []
declarations_of (Some a) = a.declarations

-- The nodes of a cell that stand in no process, with these concurrent statements.
abbrev pub nodes_outside_of : Entity' → Option Arch → List Conc → List SitedNode
nodes_outside_of e arch cs =
    generic_nodes e.generics ++ port_nodes e.ports ++ declaration_nodes None (declarations_of arch) ++ flat_map nodes_outside cs

abbrev pub nodes_outside_processes : Cell → List SitedNode
nodes_outside_processes cell = nodes_outside_of cell.entity cell.arch (statements cell.arch)

-- ---- in a process

-- Those in what it declares, and the names of its list.
abbrev pub nodes_before_statements : Process → List SitedNode
nodes_before_statements p = declaration_nodes (Some p) p.declarations ++ seen_from_themselves (Some p) (names p.sensitivity)

-- Those of its statements.
abbrev pub nodes_of_statements : Process → List SitedNode
nodes_of_statements p = seen_from_themselves (Some p) (sequentials p.statements)

abbrev pub nodes_of_process : Process → List SitedNode
nodes_of_process p = nodes_before_statements p ++ nodes_of_statements p

-- ---- names of types

-- The declarations of a process or a block.
abbrev pub declarations_in : ConcLayer → List Decl
declarations_in (Conc-F.Process place label p) = p.declarations
declarations_in (Conc-F.ComponentInstance place i) = []
declarations_in (Conc-F.Instance place i) = []
declarations_in (Conc-F.Block place label b) = b.declarations
declarations_in (Conc-F.Call place name) = []
declarations_in (Conc-F.SignalAssignment place a) = []

abbrev pub types_outside : Conc → List Reference
types_outside c = filter_map type_of_decl (declarations_in (out-Conc c))

-- The names of types in a cell, with these concurrent statements.
abbrev pub types_of : Entity' → Option Arch → List Conc → List Reference
types_of e arch cs =
    filter_map type_of_iface e.generics ++ filter_map type_of_iface e.ports ++ filter_map type_of_decl (declarations_of arch)
    ++ flat_map types_outside cs

abbrev pub types : Cell → List Reference
types cell = types_of cell.entity cell.arch (statements cell.arch)
