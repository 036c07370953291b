-- The execution of the processes of a cell (IEEE 1076-1993, 9.2 and 12.6; IEEE 1076.4): what its variables begin as, and what an activation does.
use Rattle.std.specs.Prelude.{ℕ, ◌+◌, ◌++◌, List, [], ◌∷◌, map, take, drop, length, replicate, slice_get}
use Rattle.std.specs.List.{fold}
use Rattle.std.specs.Option.{option_map_or}
use Rattle.vital_base.specs.declared.kind.Kind.TheVariants as kinds
use Rattle.vital_logic.specs.declared.level.Level.TheVariants.{U, X}
use Rattle.vital_logic.specs.Tables.{entry, x01_table}
use Rattle.vital_objects.specs.declared.variable.VariableKind.{VariableKind}
use Rattle.vital_objects.specs.declared.variable.VariableKind.TheVariants as kind
use Rattle.vital_operands.specs.declared.tree.Control.TheVariants as control
use Rattle.vital_path_delay.specs.Changes.{calc_delay}
use Rattle.vital_path_delay.specs.Kept as glitches
use Rattle.vital_timing.specs.declared.delay.Delay.{Delay}
use Rattle.vital_timing_checks.specs.PeriodPulses as pulses
use Rattle.vital_timing_checks.specs.TimingSteps as timings
use Rattle.vital_typed_cells.specs.declared.process.CellProcess.{CellProcess}
use Rattle.vital_typed_cells.specs.declared.typed_cell.TypedCell.{TypedCell}
use Rattle.vital_typed_cells.specs.declared.wire.WireDelay.{WireDelay}
use Rattle.vital_machine.specs.declared.effect.Effect.{Effect}
use Rattle.vital_machine.specs.declared.effect.Effect.TheVariants as effect
use Rattle.vital_machine.specs.declared.input.Input.{Input}
use Rattle.vital_cell.specs.Environments.{bit_of, control_of, generic_delay, in_values, input_of, names_with, process_constants}
use Rattle.vital_typed_cells.specs.Expressions.{Names, level, vector}
use Rattle.vital_typed_cells.specs.PackageWorths.{packages_worth}
use Rattle.vital_cell.specs.Statements.{Present, State, executed}
use Rattle.vital_cell.specs.Variables.{Glitch, Held, Levels, Period, Slot, Strengthless, Timing}

-- ---- what is executed: the wire delays are a process of one statement each, where the block of them stands among the processes

pub data Executed : Type 0 where
  Wire : WireDelay → Executed
  Process' : CellProcess → Executed

abbrev pub all_executed : TypedCell → List Executed
all_executed c =
    map (λ p. Process' p) (take c.processes_before_wires c.processes)
    ++ map (λ w. Wire w) c.wires
    ++ map (λ p. Process' p) (drop c.processes_before_wires c.processes)

-- Drivers are numbered by statement: one for each wire delay and each path delay.
abbrev pub drivers_of : Executed → ℕ
drivers_of (Wire w) = 1
drivers_of (Process' p) = length p.sections.path_delays

abbrev pub first_driver : TypedCell → ℕ → ℕ
first_driver c number = fold (λ n x. n + drivers_of x) 0 (take number (all_executed c))

-- ---- what is seen in a process

abbrev pub names_in : TypedCell → List Delay → CellProcess → List Input → List Slot → Names
names_in c values p = names_with c values (packages_worth c.packages) (process_constants c values p)

abbrev pub present_in : TypedCell → List Delay → CellProcess → ℕ → List Input → Present
present_in c values p now inputs = record {
  now = now;
  names = names_in c values p inputs;
  bit = bit_of c;
  age = λ name. (input_of c inputs name).age;
}

-- ---- an activation

abbrev pub wire_effects : TypedCell → List Delay → ℕ → List Input → WireDelay → List Effect
wire_effects c values driver inputs w =
    let i = input_of c inputs w.port in
    effect.Assign driver (record { kind = kinds.Transport; value = i.value; delay = calc_delay i.value i.last (generic_delay c values w.generic) }) ∷ []

abbrev pub activation : TypedCell → List Delay → ℕ → ℕ → List Input → List Slot → Executed → State
activation c values driver now inputs slots (Wire w) = record { slots = slots; effects = wire_effects c values driver inputs w }
activation c values driver now inputs slots (Process' p) =
    executed (present_in c values p now inputs) (control_of (packages_worth c.packages) c.controls control.TimingChecksOn) driver p.sections slots

-- What the process of a number does.
abbrev pub exec : TypedCell → List Delay → ℕ → ℕ → List Input → List Slot → State
exec c values number now inputs slots =
    option_map_or (activation c values (first_driver c number) now inputs slots) (slice_get (all_executed c) number) (record { slots = slots; effects = [] })

-- ---- what variables begin as

abbrev pub held_first : Names → VariableKind → Held
held_first e (kind.Level default) = Levels (option_map_or (level e) default U ∷ [])
held_first e (kind.X01 default) = Strengthless (option_map_or (λ t. entry x01_table (level e t)) default X)
held_first e (kind.Vector n default) = Levels (option_map_or (vector e) default (replicate n U))
held_first e kind.GlitchData = Glitch glitches.start
held_first e kind.TimingData = Timing timings.unused
held_first e kind.PeriodData = Period pulses.unused

abbrev pub start_of : TypedCell → List Delay → Executed → List Slot
start_of c values (Wire w) = []
start_of c values (Process' p) =
    let e = in_values c values (packages_worth c.packages) (process_constants c values p) in
    map (λ v. record { name = v.name; held = held_first e v.kind }) p.variables

abbrev pub start : TypedCell → List Delay → ℕ → List Slot
start c values number = option_map_or (start_of c values) (slice_get (all_executed c) number) []
