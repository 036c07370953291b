-- What the processes of a cell are compiled to, one after the other.
use Rattle.std.specs.Prelude.{◌≡◌, ◌+◌, ◌≤◌, ℕ, true, List, [], ◌∷◌, ◌++◌, length, map}
use Rattle.std.specs.List.{AllZip, IsDistinct, list_all, sum_by}
use Rattle.std.specs.Str.{bytes_eq}
use Rattle.vital_cell.specs.declared.known.KnownNames.{KnownNames}
use Rattle.vital_cell.specs.declared.processes.Processes.{Processes}
use Rattle.vital_cell.specs.Programs.{StandsFor}
use Rattle.vital_cell.specs.Short.{HasShort}
use Rattle.vital_typed_cells.specs.Fits.{FitsCell}
use Rattle.vital_cell.specs.Environments.{delay_named}
use Rattle.vital_cell.specs.Execution.{Executed, Process', Wire, all_executed, drivers_of}
use Rattle.vital_machine.specs.declared.program.Process.{Process}
use Rattle.vital_machine.specs.declared.steps.Executed.{Executed as Steps}
use Rattle.vital_machine.specs.declared.steps.Executed.TheVariants as steps
use Rattle.vital_machine.specs.Fits.{AreProcesses}
use Rattle.vital_machine.specs.Programs.{ProgramParts}
use Rattle.vital_objects.specs.declared.variable.Variable.{Variable}
use Rattle.vital_operands.specs.declared.tree.Control.TheVariants as control
use Rattle.vital_typed_cells.specs.KeptStates.{kept_by}
use Rattle.vital_typed_cells.specs.Sound.{IsSound, bit_count}
use Rattle.vital_typed_cells.specs.SoundDeclarations.{is_sound_kind}
use Rattle.vital_typed_cells.specs.SoundSections.{are_sound_sections}
use Rattle.vital_cell.specs.declared.scope.Scope.{Scope as Scope'}
use Rattle.vital_cell.specs.Scopes.{Scope, bit_of, lent, package_worths}
use Rattle.vital_cell.specs.Sound.{has_state_table, statement_tests, tests}
use Rattle.vital_cell.specs.Steps.{AreSteps}
use Rattle.vital_cell.specs.Values.{AreFirst, scope_of_cell, with_constants, worths_in}
use Rattle.vital_timing.specs.declared.delay.Delay.{Delay}
use Rattle.vital_typed_cells.specs.Bits.{names_of}
use Rattle.vital_typed_cells.specs.declared.process.CellProcess.{CellProcess}
use Rattle.vital_typed_cells.specs.declared.typed_cell.TypedCell.{TypedCell}
use Rattle.vital_typed_cells.specs.declared.wire.WireDelay.{WireDelay}
use Rattle.vital_typed_cells.specs.PackageWorths.{packages_worth}

-- ---- what is known

-- What the names of a cell mean whose timing generics have delays.
pub record AreKnown (c : TypedCell) (values : List Delay) (known : KnownNames) : Type 0 where
  pub bits : known.bits ≡ names_of c.ports c.signals
  pub no_variables : known.no_variables ≡ []
  pub constants : known.constants ≡ map (λ k. k.name) c.constants
  pub packages : package_worths known.packages.items ≡ packages_worth c.packages
  pub generics : known.generics ≡ map (λ g. g.name) c.generics ++ map (λ g. g.name) c.plain_generics
  pub delays : known.delays.items ≡ values ++ map (λ g. g.default) c.plain_generics

-- A scope is that of a cell with delays that fit it, and each of its constants is worth something.
pub record IsOfCell (c : TypedCell) (k : Scope') : Type 0 where
  pub values : List Delay
  pub fit : FitsCell c values
  pub is_scope : lent k ≡ scope_of_cell c values
  pub names : k.constants.now ≡ map (λ q. q.name) c.constants
  pub worths : length c.constants ≤ length k.worths.now

-- Where the constants of a process are known too, and where its variables are seen as well.
abbrev pub values_in : Scope → CellProcess → Scope
values_in k p = with_constants k (worths_in k k.constants p.constants)

abbrev pub with_variables : Scope → List Variable → Scope
with_variables k vs = record {
  bits = k.bits;
  variables = vs;
  constants = k.constants;
  packages = k.packages;
  generics = k.generics;
  controls = k.controls;
}

abbrev pub statements_in : Scope → CellProcess → Scope
statements_in k p = with_variables (values_in k p) p.variables

-- ---- what is made

-- The steps are those of the statements of a process, whose first driver has a number.
abbrev pub HasSteps : Scope → ℕ → CellProcess → Steps → Type 0
HasSteps k driver p (steps.Process s) = AreSteps k driver p.sections s
HasSteps k driver p (steps.Wire w) = ⊥

-- In the first scope the values of a process are known, and in the second one its statements.
pub record IsMadeProcess (v k : Scope) (driver : ℕ) (p : CellProcess) (made : Process) : Type 0 where
  pub steps : HasSteps k driver p made.steps
  pub first : AreFirst v (map (λ q. q.name) p.variables) p.variables p.sections.checks made.first

pub record IsMadeWire (k : Scope) (driver : ℕ) (w : WireDelay) (made : Process) : Type 0 where
  pub steps : made.steps ≡ steps.Wire (record { driver = driver; port = bit_of k w.port; delay = delay_named k.generics w.generic })
  pub first : made.first ≡ []

-- What is executed with its first driver, in the scope of a cell.
abbrev pub IsMade : Scope → (ℕ × Executed) → Process → Type 0
IsMade k (driver, Process' p) made = IsMadeProcess (values_in k p) (statements_in k p) driver p made
IsMade k (driver, Wire w) made = IsMadeWire k driver w made

-- What is executed, each with the number of its first driver: those of the next follow its own.
abbrev pub with_drivers : ℕ → List Executed → List (ℕ × Executed)
with_drivers n [] = []
with_drivers n (x ∷ xs) = (n, x) ∷ with_drivers (n + drivers_of x) xs

pub record AreMade (k : Scope) (xs : List Executed) (made : Processes) : Type 0 where
  pub each : AllZip (IsMade k) (with_drivers 0 xs) made.processes.items
  pub drivers : made.drivers ≡ sum_by drivers_of xs
  pub are : AreProcesses made.processes.items

-- One more is made behind others, and some more are.
abbrev pub IsPut : Scope → Executed → Processes → Processes → Type 0
IsPut k x old new = (before : List Executed) → AreMade k before old → AreMade k (before ++ x ∷ []) new

abbrev pub ArePut : Scope → List Executed → Processes → Processes → Type 0
ArePut k xs old new = (before : List Executed) → AreMade k before old → AreMade k (before ++ xs) new

-- A program of all that a cell executes.
pub record IsCompiled (k : Scope) (c : TypedCell) (program : ProgramParts) : Type 0 where
  pub each : AllZip (IsMade k) (with_drivers 0 (all_executed c)) program.processes
  pub bits : program.bits ≡ bit_count c
  pub checks : program.timing_checks_on ≡ k.controls control.TimingChecksOn

-- ---- what is asked of a process

-- What a process declares and states is sound where its constants are known, and no delay there is above 2^50 fs.
pub record IsSoundIn (v : Scope) (p : CellProcess) : Type 0 where
  pub outside : v.variables ≡ []
  pub defaults : list_all (λ q. is_sound_kind (tests v) q.kind) p.variables ≡ true
  pub statements : are_sound_sections (has_state_table (with_variables v p.variables)) (statement_tests (with_variables v p.variables)) p.sections ≡ true
  pub names : IsDistinct bytes_eq (map (λ q. q.name) p.variables)
  pub kept_once : IsDistinct bytes_eq (map kept_by p.sections.checks)
  pub short : HasShort v

-- ---- what it means

-- A program that is compiled in the scope of a sound cell stands for it.
abbrev pub CompiledStands : Type 0
CompiledStands =
    (c : TypedCell) (values : List Delay) (program : ProgramParts) → IsSound c → FitsCell c values → IsCompiled (scope_of_cell c values) c program → StandsFor program c values
