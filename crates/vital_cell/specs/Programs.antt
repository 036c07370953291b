-- When a program stands for a cell with delays for its timing generics.
use Rattle.std.specs.Prelude.{◌≡◌, ℕ, All, Bool, List, [], length, map}
use Rattle.std.specs.List.{AllZip, enumerate_from, sum_by}
use Rattle.vital_cell.specs.Named.{by_name, named}
use Rattle.vital_cell.specs.Environments.{control_of}
use Rattle.vital_cell.specs.Execution as execution
use Rattle.vital_cell.specs.Execution.{Executed, Process', Wire, all_executed, drivers_of, first_driver, start_of}
use Rattle.vital_machine.specs.declared.input.Input.{Input}
use Rattle.vital_machine.specs.declared.program.Process.{Process}
use Rattle.vital_machine.specs.declared.slot.Slot.{Slot}
use Rattle.vital_machine.specs.Fits.{StepsAreOfCell, kinds_of}
use Rattle.vital_machine.specs.Machine.{activation}
use Rattle.vital_machine.specs.Programs.{ProgramParts}
use Rattle.vital_operands.specs.declared.tree.Control.TheVariants as control
use Rattle.vital_typed_cells.specs.Sound.{bit_count}
use Rattle.vital_timing.specs.declared.delay.Delay.{Delay}
use Rattle.vital_typed_cells.specs.declared.typed_cell.TypedCell.{TypedCell}
use Rattle.vital_typed_cells.specs.PackageWorths.{packages_worth}

-- The names of the variables of what is executed; a wire delay has none.
abbrev pub variables_of : Executed → List (List ℕ)
variables_of (Wire w) = []
variables_of (Process' p) = map (λ v. v.name) p.variables

-- A process of a program stands for what is executed under a number: its variables begin with the same, and while they hold what is of the
-- kinds that they begin with, and there is an input for each bit, each activation leaves and does the same. They hold what is of those kinds
-- then.
pub record IsProcess (c : TypedCell) (values : List Delay) (checks_on : Bool) (x : ℕ × Executed) (p : Process) : Type 0 where
  pub first : named (variables_of x.1) p.first ≡ start_of c values x.1
  pub activated : (now : ℕ) (inputs : List Input) (slots : List Slot) → length inputs ≡ bit_count c → kinds_of slots ≡ kinds_of p.first
      → by_name (variables_of x.1) (activation inputs checks_on now slots p.steps)
      ≡ execution.activation c values (first_driver c x.0) now inputs (named (variables_of x.1) slots) x.1
  pub kept : (now : ℕ) (inputs : List Input) (slots : List Slot) → kinds_of slots ≡ kinds_of p.first
      → kinds_of (activation inputs checks_on now slots p.steps).slots ≡ kinds_of p.first

-- The processes stand for what the cell executes, in order; the bits are those of its ports and internal signals; the drivers and bits of
-- effects are ones of the cell; and timing checks are executed where its control says so.
pub record StandsFor (program : ProgramParts) (c : TypedCell) (values : List Delay) : Type 0 where
  pub processes : AllZip (IsProcess c values program.timing_checks_on) (enumerate_from 0 (all_executed c)) program.processes
  pub bits : program.bits ≡ bit_count c
  pub numbers : All (λ p. StepsAreOfCell (sum_by drivers_of (all_executed c)) program.bits p.steps) program.processes
  pub checks : program.timing_checks_on ≡ control_of (packages_worth c.packages) c.controls control.TimingChecksOn
