-- Libraries of files that were read, and their cells.
use Rattle.std.specs.Prelude.{ℕ, List, Contains, IfSome}
use Rattle.vital_library.specs.Units.{archs_of, entities}
use Rattle.vital_names.specs.Sites.{Cell}
use Rattle.vital_nodes.specs.declared.unit.Units.{Units}
use Rattle.vital_vhdl.specs.Outcomes.{IsUnitsOf}

-- The units are those of a text, as the file of some number and with some room for tokens.
abbrev pub IsFromText : Units → Type 0
IsFromText units = (file : ℕ) × (text : List ℕ) × (room : ℕ) × IsUnitsOf file units.role text room units

-- The entity of a cell is one of its library, and the architecture, if it has one, is one of this entity.
pub record IsCellOfLibrary (cell : Cell) : Type 0 where
  pub entity : Contains (entities cell.files) cell.entity
  pub arch : IfSome cell.arch (Contains (archs_of cell.entity.identifier.name cell.files))
