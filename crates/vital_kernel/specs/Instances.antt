-- The instances of cells of a network by numbers: what is kept of them, and what their variables hold by name.
use Rattle.std.specs.Prelude.{◌≡◌, ◌^◌, ◌<◌, ◌≤◌, ℕ, List, [], ◌∷◌, ◌++◌, All, map, length, slice_get}
use Rattle.std.specs.List.{AllZip, zip}
use Rattle.std.specs.Option.{IsSomeAnd, option_map_or}
use Rattle.vital_cell.specs.Programs.{StandsFor, variables_of}
use Rattle.vital_cell.specs.Execution.{Executed, all_executed}
use Rattle.vital_cell.specs.Variables as variables
use Rattle.vital_machine.specs.declared.effect.Effect.{Effect}
use Rattle.vital_machine.specs.declared.slot.Slot.{Slot}
use Rattle.vital_machine.specs.Fits.{EffectIsOfCell, EndsInTime, FitsStore}
use Rattle.vital_machine.specs.Programs.{ProgramParts, SlotLists}
use Rattle.vital_kernel.specs.DesignNetworks.{driver_count}
use Rattle.vital_kernel.specs.Networks.{NetCell, NetProcess, Network}
use Rattle.vital_kernel.specs.declared.instances.Instance.{Instance}
use Rattle.vital_kernel.specs.declared.instances.Instances.{Instances}
use Rattle.vital_kernel.specs.Processes.{ProcessStates, done_by, first_variables, with_slots}
use Rattle.vital_kernel.specs.Programs.{ProgramState}
use Rattle.vital_signals.specs.declared.signal.Signal.{Signal}
use Rattle.vital_typed_cells.specs.Sound.{bit_count}
use Rattle.vital_cell.specs.Named.{named}

-- ---- what variables hold

-- Those of what is executed, by their names, where they hold this by their numbers.
abbrev pub named_slots : (Executed × List Slot) → List variables.Slot
named_slots (executed, slots) = named (variables_of executed) slots

-- Those of the processes of an instance.
abbrev pub instance_variables : (NetCell × Instance) → List (List variables.Slot)
instance_variables (cell, instance) = map named_slots (zip (all_executed cell.tree) instance.store.listed)

-- Those of all processes.
abbrev pub variables_in : List NetCell → List Instance → List (List (List variables.Slot))
variables_in cells instances = map instance_variables (zip cells instances)

-- ---- effects

-- What the process did that ran last, the program of which has this number. Nothing is listed of any program before its first process
-- runs.
abbrev pub effects_in : List ProgramState → ℕ → List Effect
effects_in programs last = option_map_or (λ p. p.effects) (slice_get programs last) []

-- What contracts see.
abbrev pub states_in : Network → Instances → ProcessStates
states_in n s = record {
  network = n;
  variables = variables_in n.cells s.instances.items;
  effects = effects_in s.programs.items s.last;
  latest = s.latest;
}

-- ---- what instances meet

-- The program of a number is there, and stands for a cell with its delays.
abbrev pub Stands : List ProgramState → ℕ → NetCell → Type 0
Stands programs number cell = IsSomeAnd (slice_get programs number) (λ p. StandsFor p.program cell.tree cell.delays)

-- A store fits a program from a time on.
abbrev pub FitsFrom : ℕ → SlotLists → ProgramParts → Type 0
FitsFrom latest store program = (now : ℕ) → latest ≤ now → FitsStore program now store

-- The program of an instance stands for its cell, and its store fits that from a time on.
pub record Runs (latest : ℕ) (programs : List ProgramState) (cell : NetCell) (instance : Instance) : Type 0 where
  pub stands : Stands programs instance.program cell
  pub fits : IsSomeAnd (slice_get programs instance.program) (λ p. FitsFrom latest instance.store p.program)

-- Each cell has its instance, in order.
abbrev pub AreInstances : List NetCell → Instances → Type 0
AreInstances cells s = AllZip (Runs s.latest s.programs.items) cells s.instances.items

-- ---- what is put

-- There are some more programs, of whose processes none ran.
pub record HasMore (before after : List ProgramState) : Type 0 where
  pub more : List ProgramState
  pub behind : after ≡ before ++ more
  pub none : All (λ p. p.effects ≡ []) more

-- The variables of an instance hold what they begin as.
pub record Begins (programs : List ProgramState) (cell : NetCell) (instance : Instance) : Type 0 where
  pub runs : Runs 0 programs cell instance
  pub first : instance_variables (cell, instance) ≡ first_variables cell

-- There is one more instance.
pub record HasOneMore (programs : List ProgramState) (cell : NetCell) (before after : List Instance) : Type 0 where
  pub instance : Instance
  pub behind : after ≡ before ++ instance ∷ []
  pub begins : Begins programs cell instance

-- ---- what runs

-- Each bit of cells has its signal, which is one of so many.
pub record AreWired (signals : ℕ) (cells : List NetCell) : Type 0 where
  pub few : signals < 2 ^ 31
  pub one_each : All (λ c. length c.wires ≡ bit_count c.tree) cells
  pub there : All (λ c. All (λ signal. signal < signals) c.wires) cells

-- A process has run at a time, where the signals are these.
pub record HasRun (now : ℕ) (signals : List Signal) (p : NetProcess) (cells : List NetCell) (before after : Instances) : Type 0 where
  pub variables : variables_in cells after.instances.items
      ≡ with_slots p (done_by now signals (variables_in cells before.instances.items) p).slots (variables_in cells before.instances.items)
  pub effects : effects_in after.programs.items after.last ≡ (done_by now signals (variables_in cells before.instances.items) p).effects
  pub ends : All (EndsInTime now) (effects_in after.programs.items after.last)
  pub numbers : All (EffectIsOfCell (driver_count p.cell.tree) (bit_count p.cell.tree)) (effects_in after.programs.items after.last)
