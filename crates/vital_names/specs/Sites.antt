-- Cells, and where something stands in a cell.
use Rattle.std.specs.Prelude.{List, Option}
use Rattle.std.specs.Option.{option_copied}
use Rattle.vital_base.specs.declared.place.Place.{Place}
use Rattle.vital_nodes.specs.declared.stmt.Process.{Process}
use Rattle.vital_nodes.specs.declared.unit.Arch.{Arch}
use Rattle.vital_nodes.specs.declared.unit.Entity.{Entity}
use Rattle.vital_nodes.specs.declared.unit.Units.{Units}
use Rattle.vital_names.specs.declared.site.CellUnit.{CellUnit}
use Rattle.vital_names.specs.declared.site.Site.{Site as Site'}

-- A cell: an entity of a library, and one of its architectures, if it has one.
pub record Cell : Type 0 where
  pub files : List Units
  pub entity : Entity
  pub arch : Option Arch

-- Where something stands in a cell: the unit, the process of it, if it stands in one, and the place from which it sees the
-- declarations of this unit: those before that place.
pub record Site : Type 0 where
  pub unit : CellUnit
  pub process : Option Process
  pub viewpoint : Place

-- What is borrowed of a site.
abbrev pub lent : Site' → Site
lent s = record { unit = s.unit; process = option_copied s.process; viewpoint = s.viewpoint }
