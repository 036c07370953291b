-- The nodes of a cell that stand apart: those of attributes and components, in which it is not asked what names mean, and those of the
-- declarations and statements of the entity itself.
use Rattle.std.specs.Prelude.{List, [], ◌∷◌, ◌++◌, Option, Some, None}
use Rattle.std.specs.List.{flat_map}
use Rattle.vital_nodes.specs.declared.decl.Decl.{Decl}
use Rattle.vital_nodes.specs.declared.stmt.Conc.{Conc}
use Rattle.vital_nodes.specs.declared.stmt.Conc.TheOpen.{Conc-F}
use Rattle.vital_nodes.specs.declared.stmt.Conc.TheViews.{out-Conc}
use Rattle.vital_nodes.specs.declared.stmt.Process.{Process}
use Rattle.vital_nodes.specs.declared.unit.Entity.{Entity as Entity'}
use Rattle.vital_nodes.specs.Layers.{ConcLayer}
use Rattle.vital_nodes.specs.Nodes.{Concurrent}
use Rattle.vital_nodes.specs.Places.{identifier_of_decl, place_of_conc}
use Rattle.vital_names.specs.declared.site.CellUnit.TheVariants.{Entity}
use Rattle.vital_names.specs.Sites.{Cell}
use Rattle.vital_names.specs.Viewpoints.{is_last}
use Rattle.vital_uses.specs.Nodes.{declarations_of, nodes_in, sited_declarations}
use Rattle.vital_uses.specs.Parts.{apart_of_decl, asked_of_decl}
use Rattle.vital_uses.specs.Sited.{Sited, SitedNode, seen_from, sited}
use Rattle.vital_uses.specs.Statements.{processes, statements}

abbrev pub apart_in : Option Process → List Decl → List SitedNode
apart_in process ds = nodes_in apart_of_decl (sited_declarations process ds)

-- Those of a block.
abbrev pub apart_of_layer : ConcLayer → List SitedNode
apart_of_layer (Conc-F.Process place label p) = []
apart_of_layer (Conc-F.ComponentInstance place i) = []
apart_of_layer (Conc-F.Instance place i) = []
apart_of_layer (Conc-F.Block place label b) = apart_in None b.declarations
apart_of_layer (Conc-F.Call place name) = []
apart_of_layer (Conc-F.SignalAssignment place a) = []

abbrev pub apart_outside : Conc → List SitedNode
apart_outside c = apart_of_layer (out-Conc c)

abbrev pub apart_in_process : Process → List SitedNode
apart_in_process p = apart_in (Some p) p.declarations

-- ---- the entity, whose own declarations and statements break Level 0

abbrev pub sited_in_entity : List Decl → List (Sited Decl)
sited_in_entity ds = sited (λ d. (identifier_of_decl d).place) is_last Entity None ds

abbrev pub nodes_of_entity_statement : Conc → List SitedNode
nodes_of_entity_statement c = seen_from (record { unit = Entity; process = None; viewpoint = place_of_conc c }) (Concurrent c ∷ [])

-- All that it declares, and its statements, each of which is seen from its own place.
abbrev pub nodes_in_entity : Entity' → List SitedNode
nodes_in_entity e =
    nodes_in asked_of_decl (sited_in_entity e.declarations) ++ nodes_in apart_of_decl (sited_in_entity e.declarations)
    ++ flat_map nodes_of_entity_statement e.statements

-- Those of the entity, and of the architecture, its blocks and its processes.
abbrev pub nodes_apart : Cell → List SitedNode
nodes_apart cell =
    nodes_in_entity cell.entity ++ apart_in None (declarations_of cell.arch) ++ flat_map apart_outside (statements cell.arch)
    ++ flat_map apart_in_process (processes cell.arch)
