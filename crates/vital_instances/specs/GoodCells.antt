-- Cells that may stand in a design.
use Rattle.std.specs.Prelude.{◌≡◌, ℕ, Bool, true, List, Option, Some, None}
use Rattle.std.specs.List.{slice_get}
use Rattle.std.specs.Option.{option_and_then}
use Rattle.vital_nodes.specs.declared.unit.Units.{Units}
use Rattle.vital_instances.specs.declared.cell_fault.CellFault.{CellFault}
use Rattle.vital_instances.specs.Judges.{IsJudge, Judge}
use Rattle.vital_instances.specs.Units.{cell_of, unit_at}

-- What is said of the entity of a number as a cell.
abbrev pub fault_at : Judge → List Units → ℕ → Option CellFault
fault_at judge files n = option_and_then (λ u. judge (cell_of files u)) (unit_at files n)

-- Each entity that is marked has no fault.
abbrev pub AreGood : List Units → List Bool → Type 0
AreGood files marks = (n : ℕ) → slice_get marks n ≡ Some true → (judge : Judge) → IsJudge judge → fault_at judge files n ≡ None
