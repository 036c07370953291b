-- Identifiers that are declared again.
use Rattle.std.specs.Prelude.{Bool, ◌||◌, List, filter, map, Option, is_some}
use Rattle.vital_base.specs.declared.place.Place.{Place}
use Rattle.vital_nodes.specs.declared.stmt.Process.{Process}
use Rattle.vital_names.specs.declared.site.CellUnit.{CellUnit}
use Rattle.vital_names.specs.Declarations.{Declared, identifier_of}
use Rattle.vital_names.specs.Meanings.{declared}
use Rattle.vital_names.specs.Sites.{Cell, Site}
use Rattle.vital_names.specs.Words.{predeclared}

-- The place of what is declared, and the site at that place.
abbrev pub place_of : Declared → Place
place_of d = (identifier_of d).place

abbrev pub own_site : CellUnit → Option Process → Declared → Site
own_site unit process d = record { unit = unit; process = process; viewpoint = place_of d }

-- An earlier declaration of the cell that is seen from there has its name, or the name is predeclared. Constants of packages
-- count for nothing.
abbrev pub is_redeclared : Cell → CellUnit → Option Process → Declared → Bool
is_redeclared cell unit process d =
    is_some (declared (identifier_of d).name cell (own_site unit process d)) || is_some (predeclared (identifier_of d).name)

-- The places of those among declarations of a unit, or of a process of it.
abbrev pub redeclared : Cell → CellUnit → Option Process → List Declared → List Place
redeclared cell unit process ds = map place_of (filter (is_redeclared cell unit process) ds)
