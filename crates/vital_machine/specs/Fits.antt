-- What a program must meet, and when a store, inputs and effects fit it.
use Rattle.std.specs.Prelude.{◌≡◌, ◌+◌, ◌*◌, ◌^◌, ◌<◌, ◌≤◌, ℕ, List, ⊤, All, IfSome, length, map, replicate}
use Rattle.vital_logic.specs.declared.level.Level.TheVariants.{U}
use Rattle.vital_machine.specs.declared.effect.Effect.{Effect}
use Rattle.vital_machine.specs.declared.effect.Effect.TheVariants as effect
use Rattle.vital_machine.specs.declared.input.Input.{Input}
use Rattle.vital_machine.specs.declared.program.Process.{Process}
use Rattle.vital_machine.specs.declared.slot.Slot.{Slot}
use Rattle.vital_machine.specs.declared.slot.Slot.TheVariants as slot
use Rattle.vital_machine.specs.declared.steps.CheckStep.{CheckStep}
use Rattle.vital_machine.specs.declared.steps.Executed.{Executed}
use Rattle.vital_machine.specs.declared.steps.Executed.TheVariants as executed
use Rattle.vital_machine.specs.declared.steps.PathDelayStep.{PathDelayStep}
use Rattle.vital_machine.specs.EffectLists.{EffectList}
use Rattle.vital_machine.specs.Machine.{reference_of}
use Rattle.vital_machine.specs.Programs.{ProgramParts, SlotLists}
use Rattle.vital_path_delay.specs.Kept.{HasSmallTimes, start}
use Rattle.vital_path_delay.specs.Within.{IsWithin}
use Rattle.vital_timing_checks.specs.PeriodPulses as pulses
use Rattle.vital_timing_checks.specs.RecRems as recoveries
use Rattle.vital_timing_checks.specs.SetupHolds as setups

-- ---- times of variables

-- No time that a check keeps is above a time, and those of glitches are below 2^61 fs.
abbrev pub HasTimes : ℕ → Slot → Type 0
HasTimes now (slot.Glitch kept) = HasSmallTimes kept
HasTimes now (slot.SetupHold check) = setups.NoneAbove now check
HasTimes now (slot.RecRem check) = recoveries.NoneAbove now check
HasTimes now (slot.PeriodPulse check) = pulses.NoneAbove now check
HasTimes now other = ⊤

abbrev pub HaveTimes : ℕ → List Slot → Type 0
HaveTimes now slots = All (HasTimes now) slots

-- ---- programs

-- No delay of a path delay is above 2^50 fs.
abbrev pub AreShort : PathDelayStep → Type 0
AreShort d = All (λ p. IsWithin (2 ^ 50) p.delay) d.paths × IsWithin (2 ^ 50) d.default_delay

-- No delay of a process is above 2^50 fs.
abbrev pub HasShortDelays : Executed → Type 0
HasShortDelays (executed.Wire w) = IsWithin (2 ^ 50) w.delay
HasShortDelays (executed.Process p) = All AreShort p.path_delays

-- How many effects an activation has at most: one of each check, and a message and two assignments of each path delay.
abbrev pub most_effects_of : Executed → ℕ
most_effects_of (executed.Wire w) = 1
most_effects_of (executed.Process p) = length p.checks + 3 * length p.path_delays

-- The delays of a process are short, its effects can be counted by a u32, and its variables begin with no time that is above 0.
pub record IsProcess (p : Process) : Type 0 where
  pub delays : HasShortDelays p.steps
  pub effects : most_effects_of p.steps < 2 ^ 32
  pub first : HaveTimes 0 p.first

-- What a program must meet.
abbrev pub AreProcesses : List Process → Type 0
AreProcesses processes = All IsProcess processes

-- ---- stores

-- No path delay has more paths than there is room for.
abbrev pub HasRoom : ℕ → Executed → Type 0
HasRoom room (executed.Wire w) = ⊤
HasRoom room (executed.Process p) = All (λ d. length d.paths ≤ room) p.path_delays

-- What kind of value a variable holds: the same with nothing known in it.
abbrev pub kind_of : Slot → Slot
kind_of (slot.Level l) = slot.Level U
kind_of (slot.X01 l) = slot.X01 U
kind_of (slot.Vector ls) = slot.Vector (replicate (length ls) U)
kind_of (slot.Glitch kept) = slot.Glitch start
kind_of (slot.SetupHold check) = slot.SetupHold setups.unused
kind_of (slot.RecRem check) = slot.RecRem recoveries.unused
kind_of (slot.PeriodPulse check) = slot.PeriodPulse pulses.unused

abbrev pub kinds_of : List Slot → List Slot
kinds_of slots = map kind_of slots

-- A store has a program's variables, each with a value of its kind, no time in them is too late, and it has room for the paths.
pub record FitsStore (program : ProgramParts) (now : ℕ) (store : SlotLists) : Type 0 where
  pub kinds : map kinds_of store.listed ≡ map (λ p. kinds_of p.first) program.processes
  pub times : All (HaveTimes now) store.listed
  pub room : All (λ p. HasRoom store.room p.steps) program.processes

-- ---- inputs and effects

-- One entry for each bit of the ports and the internal signals.
abbrev pub FitsInputs : ProgramParts → List Input → Type 0
FitsInputs program inputs = length inputs ≡ program.bits

-- Room for the effects of each process.
abbrev pub FitsEffects : ProgramParts → EffectList → Type 0
FitsEffects program effects = All (λ p. most_effects_of p.steps ≤ effects.room) program.processes

-- The time to which an assignment at a time, now, puts off a value is below 2^61 fs.
abbrev pub EndsInTime : ℕ → Effect → Type 0
EndsInTime now (effect.Assign driver send) = now + send.delay < 2 ^ 61
EndsInTime now other = ⊤

-- ---- numbers

-- The drivers and the bits of a step, and so those of an effect, are ones of a cell that has so many.
abbrev pub CheckIsOfCell : ℕ → CheckStep → Type 0
CheckIsOfCell bits c = (c.test < bits) × IfSome (reference_of c.kind) (λ bit. bit < bits)

abbrev pub DelayIsOfCell : ℕ → ℕ → PathDelayStep → Type 0
DelayIsOfCell drivers bits d = (d.driver < drivers) × (d.out_signal < bits)

abbrev pub StepsAreOfCell : ℕ → ℕ → Executed → Type 0
StepsAreOfCell drivers bits (executed.Wire w) = w.driver < drivers
StepsAreOfCell drivers bits (executed.Process p) = All (CheckIsOfCell bits) p.checks × All (DelayIsOfCell drivers bits) p.path_delays

abbrev pub EffectIsOfCell : ℕ → ℕ → Effect → Type 0
EffectIsOfCell drivers bits (effect.Assign driver send) = driver < drivers
EffectIsOfCell drivers bits (effect.Glitch port) = port < bits
EffectIsOfCell drivers bits (effect.Violation test reference violated) = (test < bits) × IfSome reference (λ bit. bit < bits)
