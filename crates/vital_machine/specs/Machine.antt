-- What numbered steps do, one after the other: what variables hold then, by their numbers, and what is sent and said.
use Rattle.std.specs.Prelude.{ℕ, Bool, ◌&&◌, ◌++◌, is_some, List, [], ◌∷◌, map, slice_get, slice_set, take, Option, Some, None, if◌then◌else◌}
use Rattle.std.specs.List.{enumerate_from, fold, slice_index_or}
use Rattle.std.specs.Option.{option_map, option_map_or, option_to_list}
use Rattle.vital_base.specs.declared.kind.Kind.TheVariants as kinds
use Rattle.vital_machine.specs.declared.checks.CheckCall.{CheckCall}
use Rattle.vital_machine.specs.declared.slot.Slot.{Slot}
use Rattle.vital_machine.specs.declared.slot.Slot.TheVariants as slot
use Rattle.vital_machine.specs.declared.steps.CheckKindStep.{CheckKindStep}
use Rattle.vital_machine.specs.declared.steps.CheckKindStep.TheVariants as kind
use Rattle.vital_machine.specs.declared.steps.CheckStep.{CheckStep}
use Rattle.vital_machine.specs.declared.steps.Executed.{Executed}
use Rattle.vital_machine.specs.declared.steps.Executed.TheVariants as executed
use Rattle.vital_machine.specs.declared.steps.FunctionalStep.{FunctionalStep}
use Rattle.vital_machine.specs.declared.steps.FunctionalStep.TheVariants as functional
use Rattle.vital_machine.specs.declared.steps.PathDelayStep.{PathDelayStep}
use Rattle.vital_machine.specs.declared.steps.PathStep.{PathStep}
use Rattle.vital_machine.specs.declared.steps.Place.{Place}
use Rattle.vital_machine.specs.declared.steps.Place.TheVariants as place
use Rattle.vital_machine.specs.declared.steps.ProcessSteps.{ProcessSteps}
use Rattle.vital_machine.specs.declared.steps.RecoveryStep.{RecoveryStep}
use Rattle.vital_machine.specs.declared.steps.ReferenceStep.{ReferenceStep}
use Rattle.vital_machine.specs.declared.steps.StateTableStep.{StateTableStep}
use Rattle.vital_machine.specs.declared.steps.WireStep.{WireStep}
use Rattle.vital_machine.specs.EffectLists.{EffectList}
use Rattle.vital_machine.specs.Programs.{ProgramParts, SlotLists}
use Rattle.vital_machine.specs.Seen.{Seen, age, bit, seen_of}
use Rattle.vital_machine.specs.Slots.{levels_at, with_element, with_level, with_levels}
use Rattle.vital_machine.specs.Trees.{level, truth, vector}
use Rattle.vital_machine.specs.TruthTables.{fitted}
use Rattle.vital_machine.specs.declared.effect.Effect.{Effect}
use Rattle.vital_machine.specs.declared.effect.Effect.TheVariants as effect
use Rattle.vital_machine.specs.declared.input.Input.{Input}
use Rattle.vital_primitives.specs.Operators.{first}
use Rattle.vital_logic.specs.declared.level.Level.{Level}
use Rattle.vital_logic.specs.declared.level.Level.TheVariants.{U, X, Zero}
use Rattle.vital_path_delay.specs.Calls.{path_delay}
use Rattle.vital_path_delay.specs.Changes.{calc_delay}
use Rattle.vital_path_delay.specs.declared.path.Path.{Path}
use Rattle.vital_path_delay.specs.declared.send.GlitchOut.{GlitchOut}
use Rattle.vital_table.specs.Matches.{first_row}
use Rattle.vital_table.specs.Results.{result_at}
use Rattle.vital_timing_checks.specs.declared.limits.PulseLimits.{PulseLimits}
use Rattle.vital_timing_checks.specs.declared.limits.RecoveryLimits.{RecoveryLimits}
use Rattle.vital_timing_checks.specs.declared.limits.SetupLimits.{SetupLimits}
use Rattle.vital_timing_checks.specs.declared.violated.Violated.{Violated}
use Rattle.vital_timing_checks.specs.PeriodPulses.{period_pulse_step}
use Rattle.vital_timing_checks.specs.RecRems.{rec_rem_step}
use Rattle.vital_timing_checks.specs.SetupHolds.{setup_hold_step}

pub record State : Type 0 where
  pub slots : List Slot
  pub effects : List Effect

abbrev pub state_of : List Slot → EffectList → State
state_of slots effects = record { slots = slots; effects = effects.listed }

-- The variable of a number is changed, if there is one.
abbrev pub changed : ℕ → (Slot → Slot) → List Slot → List Slot
changed number change slots = option_map_or (λ s. slice_set slots number (change s)) (slice_get slots number) slots

-- ---- functionality

abbrev pub put : Place → List Level → List Slot → List Slot
put (place.Level number) ls slots = changed number (with_level (first ls)) slots
put (place.Element number n) ls slots = changed number (with_element n (first ls)) slots
put (place.Vector number) ls slots = changed number (with_levels ls) slots

-- What a place holds.
abbrev pub held_by : Place → List Slot → List Level
held_by (place.Level number) slots = levels_at slots number
held_by (place.Element number n) slots = slice_index_or (levels_at slots number) n U ∷ []
held_by (place.Vector number) slots = levels_at slots number

abbrev pub state_table : Seen → StateTableStep → List Slot
state_table s call =
    let t = call.table in
    let new = fitted t.inputs (vector s call.data_in) in
    let old = fitted t.inputs (levels_at s.slots call.previous_data_in) in
    let before = fitted t.results (held_by call.result s.slots) in
    let row = first_row t old new (take t.states before) in
    let results = map (λ r. result_at t row r.0 r.1) (enumerate_from 0 before) in
    changed call.previous_data_in (with_levels new) (put call.result results s.slots)

abbrev pub functional_step : List Input → List Slot → FunctionalStep → List Slot
functional_step inputs slots (functional.Level p t) = put p (level (seen_of inputs slots) t ∷ []) slots
functional_step inputs slots (functional.Vector p t) = put p (fitted 256 (vector (seen_of inputs slots) t)) slots
functional_step inputs slots (functional.StateTable call) = state_table (seen_of inputs slots) call

-- ---- timing checks

-- What a check is called with.
pub record Call : Type 0 where
  pub now : ℕ
  pub test : Level
  pub enabled : Bool

abbrev pub called : CheckCall → Call
called c = record { now = c.now; test = c.test; enabled = c.enabled }

-- What the variable of a check holds then, and what the check found.
abbrev pub setup_hold : Call → Level → ReferenceStep → SetupLimits → Slot → (Slot × Option Violated)
setup_hold c reference r limits (slot.SetupHold check) =
    let done = setup_hold_step check c.now c.test reference r.edges limits c.enabled in (slot.SetupHold done.0, done.1)
setup_hold c reference r limits other = (other, None)

abbrev pub recovery : Call → Level → ReferenceStep → RecoveryLimits → Slot → (Slot × Option Violated)
recovery c reference r limits (slot.RecRem check) =
    let done = rec_rem_step check c.now c.test reference r.edges limits c.enabled in (slot.RecRem done.0, done.1)
recovery c reference r limits other = (other, None)

abbrev pub period : Call → PulseLimits → Slot → (Slot × Option Violated)
period c limits (slot.PeriodPulse check) =
    let done = period_pulse_step check c.now c.test limits c.enabled in (slot.PeriodPulse done.0, done.1)
period c limits other = (other, None)

abbrev pub recovery_limits : Seen → RecoveryStep → RecoveryLimits
recovery_limits s r = record { recovery = r.recovery; removal = r.removal; active_low = truth s r.active_low }

abbrev pub check_of : Seen → Call → CheckKindStep → Slot → (Slot × Option Violated)
check_of s c (kind.SetupHold r limits) held = setup_hold c (bit s r.signal) r limits held
check_of s c (kind.RecoveryRemoval r limits) held = recovery c (bit s r.signal) r (recovery_limits s limits) held
check_of s c (kind.PeriodPulse limits) held = period c limits held

abbrev pub reference_of : CheckKindStep → Option ℕ
reference_of (kind.SetupHold r limits) = Some r.signal
reference_of (kind.RecoveryRemoval r limits) = Some r.signal
reference_of (kind.PeriodPulse limits) = None

abbrev pub violation_said : CheckStep → Bool → Option Violated → List Effect
violation_said c msg_on None = []
violation_said c msg_on (Some v) = if msg_on then effect.Violation c.test (reference_of c.kind) v ∷ [] else []

-- What a call on the variable of a number gives, if there is one.
abbrev pub given_by : {B : Type 0} → ℕ → (Slot → (Slot × Option B)) → List Slot → Option B
given_by number call slots = option_map_or (λ held. (call held).1) (slice_get slots number) None

abbrev pub after_check : CheckStep → Bool → Bool → (Slot → (Slot × Option Violated)) → State → State
after_check c x_on msg_on check st =
    let found = given_by c.kept check st.slots in
    let level = (if is_some found && x_on then X else Zero) in record {
      slots = changed c.violation (with_level level) (changed c.kept (λ held. (check held).0) st.slots);
      effects = st.effects ++ violation_said c msg_on found;
    }

abbrev pub check_step : List Input → ℕ → State → CheckStep → State
check_step inputs now st c =
    let s = seen_of inputs st.slots in
    let call : Call = record { now = now; test = bit s c.test; enabled = truth s c.check_enabled } in
    after_check c (truth s c.x_on) (truth s c.msg_on) (check_of s call c.kind) st

-- ---- path delays

abbrev pub timed : Seen → PathStep → Path
timed s p = record { age = age s p.signal; delay = p.delay; on = truth s p.condition }

abbrev pub sent : ℕ → GlitchOut → List Effect
sent driver out = effect.Assign driver out.first ∷ option_to_list (option_map (λ send. effect.Assign driver send) out.second)

-- The message of a glitch comes before what is sent.
abbrev pub said : PathDelayStep → Bool → GlitchOut → List Effect
said d msg_on out = (if out.glitched && msg_on then effect.Glitch d.out_signal ∷ [] else []) ++ sent d.driver out

-- What the variable of a path delay holds then, and what is sent, if anything.
abbrev pub delay_of : PathDelayStep → List Path → Bool → ℕ → Level → Slot → (Slot × Option GlitchOut)
delay_of d paths x_on now value (slot.Glitch kept) =
    let done = path_delay paths d.default_delay d.mode x_on now kept value in (slot.Glitch done.kept, done.out)
delay_of d paths x_on now value other = (other, None)

abbrev pub after_delay : PathDelayStep → Bool → (Slot → (Slot × Option GlitchOut)) → State → State
after_delay d msg_on call st = record {
  slots = changed d.glitch_data (λ held. (call held).0) st.slots;
  effects = st.effects ++ option_map_or (said d msg_on) (given_by d.glitch_data call st.slots) [];
}

abbrev pub delay_step : List Input → ℕ → State → PathDelayStep → State
delay_step inputs now st d =
    let s = seen_of inputs st.slots in
    after_delay d (truth s d.msg_on) (delay_of d (map (timed s) d.paths) (truth s d.x_on) now (level s d.out_temp)) st

-- ---- processes

-- Timing checks are executed or not.
abbrev pub checked : List Input → Bool → ℕ → State → List CheckStep → State
checked inputs checks_on now st checks = if checks_on then fold (check_step inputs now) st checks else st

abbrev pub after_functionality : List Input → List FunctionalStep → State → State
after_functionality inputs steps st = record { slots = fold (functional_step inputs) st.slots steps; effects = st.effects }

abbrev pub process : List Input → Bool → ℕ → List Slot → ProcessSteps → State
process inputs checks_on now slots p =
    let st = checked inputs checks_on now (record { slots = slots; effects = [] }) p.checks in
    fold (delay_step inputs now) (after_functionality inputs p.functionality st) p.path_delays

abbrev pub wire_sent : WireStep → Input → List Effect
wire_sent w i = effect.Assign w.driver (record { kind = kinds.Transport; value = i.value; delay = calc_delay i.value i.last w.delay }) ∷ []

abbrev pub wire_effects : List Input → WireStep → List Effect
wire_effects inputs w = option_map_or (wire_sent w) (slice_get inputs w.port) []

abbrev pub activation : List Input → Bool → ℕ → List Slot → Executed → State
activation inputs checks_on now slots (executed.Wire w) = record { slots = slots; effects = wire_effects inputs w }
activation inputs checks_on now slots (executed.Process p) = process inputs checks_on now slots p

-- What the variables of the process of a number hold.
abbrev pub slots_of : SlotLists → ℕ → List Slot
slots_of store number = slice_index_or store.listed number []

-- The activation of the process of a number.
abbrev pub activated : ProgramParts → ℕ → ℕ → SlotLists → List Input → State
activated program number now store inputs =
    let slots = slots_of store number in
    option_map_or (λ p. activation inputs program.timing_checks_on now slots p.steps) (slice_get program.processes number) (record { slots = slots; effects = [] })
