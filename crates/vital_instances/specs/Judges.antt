-- Whether cells are cells of Level 1 (IEEE 1076.4).
use Rattle.std.specs.Prelude.{◌≡◌, ◌⊎◌, Option, Some, None, Ok, Err}
use Rattle.vital_level1.specs.declared.level.CellError.TheVariants as verdicts
use Rattle.vital_level1.specs.declared.level.CellLevel.TheVariants as level
use Rattle.vital_level1.specs.Verdicts.{IsVerdict}
use Rattle.vital_names.specs.Sites.{Cell}
use Rattle.vital_instances.specs.declared.cell_fault.CellFault.{CellFault}
use Rattle.vital_instances.specs.declared.cell_fault.CellFault.TheVariants.{Limit, Broken}

-- Why a cell may not stand in a design, if it may not: the first limit that it passes; or, where it passes none, the first clause that it
-- breaks.
abbrev pub IsFaultOf : Cell → Option CellFault → Type 0
IsFaultOf cell None = IsVerdict cell (Ok level.Level1)
IsFaultOf cell (Some (Limit l)) = IsVerdict cell (Err (verdicts.Limit l))
IsFaultOf cell (Some (Broken b)) = IsVerdict cell (Ok (level.Level0 b)) ⊎ IsVerdict cell (Ok (level.Neither b))

-- What is said of each cell.
abbrev pub Judge : Type 0
Judge = Cell → Option CellFault

abbrev pub IsJudge : Judge → Type 0
IsJudge judge = (cell : Cell) → IsFaultOf cell (judge cell)

-- Whoever judges by the clauses says this of a cell.
abbrev pub IsSaidOf : Cell → Option CellFault → Type 0
IsSaidOf cell fault = (judge : Judge) → IsJudge judge → judge cell ≡ fault
