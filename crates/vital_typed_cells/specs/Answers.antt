-- What is answered where a cell is checked, and the delays that its timing generics begin with.
use Rattle.std.specs.Prelude.{◌≡◌, ⊤, ◌⊎◌, List, map, Result, Ok, Err}
use Rattle.vital_level1.specs.declared.level.CellError.TheVariants as verdicts
use Rattle.vital_level1.specs.declared.level.CellLevel.TheVariants as level
use Rattle.vital_level1.specs.Verdicts.{IsVerdict}
use Rattle.vital_names.specs.Sites.{Cell}
use Rattle.vital_timing.specs.declared.delay.Delay.{Delay}
use Rattle.vital_typed_cells.specs.declared.check.CheckError.{CheckError}
use Rattle.vital_typed_cells.specs.declared.check.CheckError.TheVariants.{Limit, Broken, NoMemory}
use Rattle.vital_typed_cells.specs.declared.typed_cell.TypedCell.{TypedCell}
use Rattle.vital_typed_cells.specs.Typed.{typed}

-- The typed tree of a cell where its level is Level 1; else its first limit, or its first breach where it passes none. Where there is no
-- memory nothing is told of it.
abbrev pub IsAnswer : Cell → Result TypedCell CheckError → Type 0
IsAnswer cell (Ok tree) = IsVerdict cell (Ok level.Level1) × (tree ≡ typed cell)
IsAnswer cell (Err (Limit limit)) = IsVerdict cell (Err (verdicts.Limit limit))
IsAnswer cell (Err (Broken breach)) = IsVerdict cell (Ok (level.Level0 breach)) ⊎ IsVerdict cell (Ok (level.Neither breach))
IsAnswer cell (Err NoMemory) = ⊤

-- One delay for each timing generic: its default.
abbrev pub default_values : TypedCell → List Delay
default_values cell = map (λ g. g.default) cell.generics
