-- Where an architecture declares: in its own declarative part, and in those of its blocks and processes.
use Rattle.std.specs.Prelude.{List, [], ◌∷◌, ◌++◌, Option, Some, None}
use Rattle.std.specs.List.{filter_map, zip}
use Rattle.vital_base.specs.declared.place.Place.{Place}
use Rattle.vital_names.specs.declared.site.CellUnit.TheVariants.{Architecture}
use Rattle.vital_names.specs.Sites.{Site}
use Rattle.vital_names.specs.Viewpoints.{is_last, viewpoints}
use Rattle.vital_nodes.specs.declared.decl.Decl.{Decl}
use Rattle.vital_nodes.specs.declared.stmt.Conc.{Conc}
use Rattle.vital_nodes.specs.declared.stmt.Conc.TheOpen.{Conc-F}
use Rattle.vital_nodes.specs.declared.stmt.Conc.TheViews.{out-Block, out-Conc}
use Rattle.vital_nodes.specs.declared.stmt.Process.{Process}
use Rattle.vital_nodes.specs.declared.unit.Arch.{Arch}
use Rattle.vital_nodes.specs.Layers.{ConcLayer}
use Rattle.vital_nodes.specs.Places.{identifier_of_decl}
use Rattle.vital_nodes.specs.Statements.{all_concurrent}

-- Declarations that stand together, and the process that they are of, if they are of one. What a block declares is seen nowhere.
pub record Region : Type 0 where
  pub process : Option Process
  pub declarations : List Decl

abbrev pub outside : List Decl → Region
outside ds = record { process = None; declarations = ds }

abbrev pub of_process : Process → Region
of_process p = record { process = Some p; declarations = p.declarations }

abbrev pub region_in : ConcLayer → Option Region
region_in (Conc-F.Process place label p) = Some (of_process p)
region_in (Conc-F.ComponentInstance place i) = None
region_in (Conc-F.Instance place i) = None
region_in (Conc-F.Block place label b) = Some (outside (out-Block b).declarations)
region_in (Conc-F.Call place name) = None
region_in (Conc-F.SignalAssignment place a) = None

-- That of a block or a process.
abbrev pub region_of : Conc → Option Region
region_of c = region_in (out-Conc c)

-- The declarations of an architecture itself, if there is one.
abbrev pub own_region : Option Arch → List Region
own_region None = []
own_region (Some a) = outside a.declarations ∷ []

-- Those of its blocks and processes, in the order of the text.
abbrev pub inner_regions_of : Arch → List Region
inner_regions_of a = filter_map region_of (all_concurrent a.statements)

abbrev pub inner_regions : Option Arch → List Region
inner_regions None = []
inner_regions (Some a) = inner_regions_of a

-- All regions of a cell's architecture.
abbrev pub regions : Option Arch → List Region
regions a = own_region a ++ inner_regions a

-- The place of a declaration.
abbrev pub place_of : Decl → Place
place_of d = (identifier_of_decl d).place

-- The declarations of a region, each with the place from which its parts see what is declared.
abbrev pub seen_from : List Decl → List (Place × Decl)
seen_from ds = zip (viewpoints place_of is_last ds) ds

-- A site in a region of the architecture.
abbrev pub site_in : Option Process → Place → Site
site_in process viewpoint = record { unit = Architecture; process = process; viewpoint = viewpoint }
