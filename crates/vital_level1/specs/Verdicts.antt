-- The level of a cell of VITAL (IEEE 1076.4).
use Rattle.std.specs.Prelude.{◌≡◌, ⊤, Option, Some, None, Result, Ok, Err}
use Rattle.vital_base.specs.declared.breach.Breach.{Breach}
use Rattle.vital_level0.specs.Breaches.{IsFirst}
use Rattle.vital_level1.specs.declared.level.CellError.{CellError}
use Rattle.vital_level1.specs.declared.level.CellError.TheVariants.{Limit, NoMemory}
use Rattle.vital_level1.specs.declared.level.CellLevel.{CellLevel}
use Rattle.vital_level1.specs.declared.level.CellLevel.TheVariants.{Level1, Level0, Neither}
use Rattle.vital_level1.specs.Breaches.{first_breach}
use Rattle.vital_limits.specs.CellLimits.{cell_limit}
use Rattle.vital_names.specs.Sites.{Cell}

-- The level of a cell whose first breaches of Level 0 and Level 1 are these, where there are any.
abbrev pub level_by : Option Breach → Option Breach → CellLevel
level_by (Some b) first = Neither b
level_by None (Some b) = Level0 b
level_by None None = Level1

-- The greatest level whose clauses a cell meets, and else the first breach.
abbrev pub IsLevel : Cell → CellLevel → Type 0
IsLevel cell level = (first : Option Breach) × IsFirst cell.entity first × (level ≡ level_by first (first_breach cell))

-- What is answered of a cell: its first limit if it passes one, and else its level. Where there is no memory nothing is told of it.
abbrev pub IsVerdict : Cell → Result CellLevel CellError → Type 0
IsVerdict cell (Ok level) = (cell_limit cell ≡ None) × IsLevel cell level
IsVerdict cell (Err (Limit limit)) = cell_limit cell ≡ Some limit
IsVerdict cell (Err NoMemory) = ⊤
