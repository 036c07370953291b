-- Where declarations and nodes stand in a cell.
use Rattle.std.specs.Prelude.{List, map, Option, Bool}
use Rattle.std.specs.List.{zip}
use Rattle.vital_base.specs.declared.place.Place.{Place}
use Rattle.vital_nodes.specs.declared.stmt.Process.{Process}
use Rattle.vital_nodes.specs.Nodes.{Node}
use Rattle.vital_nodes.specs.Places.{place_of}
use Rattle.vital_nodes.specs.Walk.{nodes_of_all}
use Rattle.vital_names.specs.declared.site.CellUnit.{CellUnit}
use Rattle.vital_names.specs.declared.site.CellUnit.TheVariants.{Architecture}
use Rattle.vital_names.specs.Sites.{Site}
use Rattle.vital_names.specs.Sites as sites
use Rattle.vital_names.specs.Viewpoints.{viewpoints}
use Rattle.vital_nodes.specs.Seen.{seen}
use Rattle.vital_uses.specs.declared.sited.SitedNode.{SitedNode as SitedNode'}

-- A declaration, a generic or a port, and the site from which its parts are seen.
pub record Sited (A : Type 0) : Type 0 where
  pub site : Site
  pub declaration : A

-- A node and the site from which it is seen.
pub record SitedNode : Type 0 where
  pub site : Site
  pub node : Node

-- What is borrowed of it.
abbrev pub lent_node : SitedNode' → SitedNode
lent_node v = record { site = sites.lent v.site; node = seen v.node }

-- Declarations of a unit, or of a process of it, each beside the place from which its parts are seen.
abbrev pub beside : {A : Type 0} → CellUnit → Option Process → List Place → List A → List (Sited A)
beside unit process ps ds = map (λ d. record { site = record { unit = unit; process = process; viewpoint = d.0 }; declaration = d.1 }) (zip ps ds)

-- Each is seen from its viewpoint.
abbrev pub sited : {A : Type 0} → (A → Place) → (A → Bool) → CellUnit → Option Process → List A → List (Sited A)
sited place last unit process ds = beside unit process (viewpoints place last ds) ds

-- Nodes and all that they hold, seen from one site.
abbrev pub seen_from : Site → List Node → List SitedNode
seen_from site vs = map (λ v. record { site = site; node = v }) (nodes_of_all vs)

-- The site of a node of the architecture, or of a process of it, that is seen from its own place.
abbrev pub own_site : Option Process → Place → Site
own_site process place = record { unit = Architecture; process = process; viewpoint = place }

-- Nodes and all that they hold, each seen from its own place.
abbrev pub seen_from_themselves : Option Process → List Node → List SitedNode
seen_from_themselves process vs = map (λ v. record { site = own_site process (place_of v); node = v }) (nodes_of_all vs)
