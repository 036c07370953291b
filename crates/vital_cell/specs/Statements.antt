-- The statements of a process, one after the other: what variables hold then, and what is sent and said.
use Rattle.std.specs.Prelude.{ℕ, Bool, false, ◌&&◌, ◌++◌, List, [], ◌∷◌, map, length, take, Option, Some, None, unwrap_or, if◌then◌else◌}
use Rattle.std.specs.List.{enumerate_from, fold, slice_index_or}
use Rattle.std.specs.Option.{option_map, option_to_list}
use Rattle.vital_actuals.specs.declared.actual.Path.{Path}
use Rattle.vital_actuals.specs.declared.target.Target.{Target}
use Rattle.vital_actuals.specs.declared.target.Target.TheVariants as target
use Rattle.vital_edges.specs.Edges.{edges_of}
use Rattle.vital_edges.specs.declared.edge_set.EdgeSet.{EdgeSet}
use Rattle.vital_logic.specs.declared.level.Level.{Level}
use Rattle.vital_logic.specs.declared.level.Level.TheVariants.{U, X, Zero}
use Rattle.vital_path_delay.specs.Calls.{path_delay}
use Rattle.vital_path_delay.specs.declared.path.Path.{Path as TimedPath}
use Rattle.vital_path_delay.specs.declared.send.GlitchOut.{GlitchOut}
use Rattle.vital_primitives.specs.Operators.{first}
use Rattle.vital_sections.specs.declared.path_delay.PathDelay.{PathDelay}
use Rattle.vital_sections.specs.declared.sections.FunctionalStatement.{FunctionalStatement}
use Rattle.vital_sections.specs.declared.sections.FunctionalStatement.TheVariants as functional
use Rattle.vital_sections.specs.declared.sections.Sections.{Sections}
use Rattle.vital_sections.specs.declared.state_table.StateTable.{StateTable}
use Rattle.vital_sections.specs.declared.timing_check.CheckParts.{CheckParts}
use Rattle.vital_sections.specs.declared.timing_check.PeriodPulseCheck.{PeriodPulseCheck}
use Rattle.vital_sections.specs.declared.timing_check.RecoveryRemovalCheck.{RecoveryRemovalCheck}
use Rattle.vital_sections.specs.declared.timing_check.SetupHoldCheck.{SetupHoldCheck}
use Rattle.vital_sections.specs.declared.timing_check.TimingCheck.{TimingCheck}
use Rattle.vital_sections.specs.declared.timing_check.TimingCheck.TheVariants as check
use Rattle.vital_table.specs.Matches.{first_row}
use Rattle.vital_table.specs.Results.{result_at}
use Rattle.vital_table.specs.Tables.{Table}
use Rattle.vital_timing_checks.specs.declared.limits.PulseLimits.{PulseLimits}
use Rattle.vital_timing_checks.specs.declared.limits.RecoveryLimits.{RecoveryLimits}
use Rattle.vital_timing_checks.specs.declared.limits.SetupLimits.{SetupLimits}
use Rattle.vital_timing_checks.specs.declared.violated.Violated.{Violated}
use Rattle.vital_timing_checks.specs.PeriodPulses.{period_pulse_step}
use Rattle.vital_timing_checks.specs.RecRems.{rec_rem_step}
use Rattle.vital_timing_checks.specs.SetupHolds.{setup_hold_step}
use Rattle.vital_typed_statements.specs.declared.statement.Value.{Value}
use Rattle.vital_typed_statements.specs.declared.statement.Value.TheVariants as value
use Rattle.vital_machine.specs.declared.effect.Effect.{Effect}
use Rattle.vital_machine.specs.declared.effect.Effect.TheVariants as effect
use Rattle.vital_cell.specs.Times.{delay_worth, time}
use Rattle.vital_cell.specs.Variables.{Glitch, Held, Period, Slot, Timing, given, given_element, glitch_of, levels_of, period_of, timing_of, with_held}
use Rattle.vital_typed_cells.specs.Expressions.{Names, level, rows_of, truth, vector}

-- What an activation reads that does not change in it.
pub record Present : Type 0 where
  pub now : ℕ
  -- What names are worth, but for variables.
  pub names : List Slot → Names
  -- The number of the bit of a port or signal, and how long ago its last event was.
  pub bit : List ℕ → ℕ
  pub age : List ℕ → ℕ

pub record State : Type 0 where
  pub slots : List Slot
  pub effects : List Effect

-- ---- functionality

abbrev pub put : Target → List Level → List Slot → List Slot
put (target.Level name) ls slots = with_held name (given (first ls ∷ [])) slots
put (target.Element name n) ls slots = with_held name (given_element n (first ls)) slots
put (target.Vector name n) ls slots = with_held name (given ls) slots

abbrev pub levels_given : Names → Value → List Level
levels_given e (value.Level t) = level e t ∷ []
levels_given e (value.Vector v) = vector e v

-- What a target holds.
abbrev pub held_by : Target → List Slot → List Level
held_by (target.Level name) slots = levels_of slots name
held_by (target.Element name n) slots = slice_index_or (levels_of slots name) n U ∷ []
held_by (target.Vector name n) slots = levels_of slots name

-- The results of a table for the previous and the present inputs and what the results are now.
abbrev pub state_results : List (List ℕ) → ℕ → List Level → List Level → List Level → List Level
state_results rows states old new before =
    let t : Table = record { inputs = length new; states = states; results = length before; rows = rows } in
    let row = first_row t old new (take states before) in
    map (λ r. result_at t row r.0 r.1) (enumerate_from 0 before)

-- A call of VitalStateTable: the results are put, and then the inputs are kept as they are given.
abbrev pub state_table : Present → StateTable → List Slot → List Slot
state_table p t slots =
    let e = p.names slots in
    let inputs = vector e t.data_in in
    let results = state_results (rows_of (e.constant t.table)) t.num_states (levels_of slots t.previous_data_in) inputs (held_by t.result slots) in
    with_held t.previous_data_in (given inputs) (put t.result results slots)

abbrev pub functional_statement : Present → List Slot → FunctionalStatement → List Slot
functional_statement p slots (functional.Assignment t v) = put t (levels_given (p.names slots) v) slots
functional_statement p slots (functional.StateTable t) = state_table p t slots

-- ---- timing checks

-- The violation of a check: its variable, and the message.
abbrev pub violation_level : Names → CheckParts → Option Violated → Level
violation_level e c None = Zero
violation_level e c (Some v) = if truth e c.x_on then X else Zero

abbrev pub said : Names → Present → CheckParts → Option (List ℕ) → Option Violated → List Effect
said e p c reference None = []
said e p c reference (Some v) =
    if truth e c.msg_on then effect.Violation (p.bit c.test_signal) (option_map p.bit reference) v ∷ [] else []

-- A check with what it keeps then and what it found.
abbrev pub after_check : Names → Present → CheckParts → List ℕ → Option (List ℕ) → Held → Option Violated → State → State
after_check e p c keeper reference kept found s = record {
  slots = with_held c.violation (given (violation_level e c found ∷ [])) (with_held keeper (λ old. kept) s.slots);
  effects = s.effects ++ said e p c reference found;
}

abbrev pub no_edges : EdgeSet
no_edges = record { tr01 = false; tr10 = false; tr0x = false; trx1 = false; tr1x = false; trx0 = false }

abbrev pub edges : ℕ → EdgeSet
edges symbol = unwrap_or (edges_of symbol) no_edges

abbrev pub setup_hold : Present → State → SetupHoldCheck → State
setup_hold p s c =
    let e = p.names s.slots in
    let k = c.reference in
    let limits : SetupLimits = record { setup_high = time e c.setup_high; setup_low = time e c.setup_low; hold_high = time e c.hold_high; hold_low = time e c.hold_low } in
    let done = setup_hold_step (record { kept = timing_of s.slots k.timing_data }) p.now (e.signal c.parts.test_signal) (e.signal k.ref_signal) (edges k.ref_transition) limits (truth e c.parts.check_enabled) in
    after_check e p c.parts k.timing_data (Some k.ref_signal) (Timing done.0.kept) done.1 s

abbrev pub recovery_removal : Present → State → RecoveryRemovalCheck → State
recovery_removal p s c =
    let e = p.names s.slots in
    let k = c.reference in
    let limits : RecoveryLimits = record { recovery = time e c.recovery; removal = time e c.removal; active_low = truth e c.active_low } in
    let done = rec_rem_step (record { kept = timing_of s.slots k.timing_data }) p.now (e.signal c.parts.test_signal) (e.signal k.ref_signal) (edges k.ref_transition) limits (truth e c.parts.check_enabled) in
    after_check e p c.parts k.timing_data (Some k.ref_signal) (Timing done.0.kept) done.1 s

abbrev pub period_pulse : Present → State → PeriodPulseCheck → State
period_pulse p s c =
    let e = p.names s.slots in
    let limits : PulseLimits = record { period = time e c.period; high = time e c.pulse_width_high; low = time e c.pulse_width_low } in
    let done = period_pulse_step (period_of s.slots c.period_data) p.now (e.signal c.parts.test_signal) limits (truth e c.parts.check_enabled) in
    after_check e p c.parts c.period_data None (Period done.0) done.1 s

abbrev pub timing_check : Present → State → TimingCheck → State
timing_check p s (check.SetupHold c) = setup_hold p s c
timing_check p s (check.RecoveryRemoval c) = recovery_removal p s c
timing_check p s (check.PeriodPulse c) = period_pulse p s c

-- ---- path delays

abbrev pub timed : Names → Present → Path → TimedPath
timed e p path = record { age = p.age path.signal; delay = delay_worth e path.delay; on = truth e path.condition }

abbrev pub sent : ℕ → GlitchOut → List Effect
sent driver out = effect.Assign driver out.first ∷ option_to_list (option_map (λ s. effect.Assign driver s) out.second)

abbrev pub glitch_said : Names → Present → PathDelay → GlitchOut → List Effect
glitch_said e p d out = if out.glitched && truth e d.msg_on then effect.Glitch (p.bit d.out_signal) ∷ [] else []

-- The message of a glitch comes before what is sent.
abbrev pub effects_of : Names → Present → PathDelay → ℕ → Option GlitchOut → List Effect
effects_of e p d driver None = []
effects_of e p d driver (Some out) = glitch_said e p d out ++ sent driver out

abbrev pub delayed : Present → State → (ℕ × PathDelay) → State
delayed p s (driver, d) =
    let e = p.names s.slots in
    let done = path_delay (map (timed e p) d.paths) (delay_worth e d.default_delay) d.mode (truth e d.x_on) p.now (glitch_of s.slots d.glitch_data) (level e d.out_temp) in
    record {
      slots = with_held d.glitch_data (λ old. Glitch done.kept) s.slots;
      effects = s.effects ++ effects_of e p d driver done.out;
    }

-- ---- the statements of a process, whose first driver has a number

abbrev pub with_checks : Present → Bool → Sections → State → State
with_checks p on k s = if on then fold (timing_check p) s k.checks else s

abbrev pub with_functionality : Present → Sections → State → State
with_functionality p k s = record { slots = fold (functional_statement p) s.slots k.functionality; effects = s.effects }

abbrev pub executed : Present → Bool → ℕ → Sections → List Slot → State
executed p checks_on first_driver k slots =
    fold (delayed p) (with_functionality p k (with_checks p checks_on k (record { slots = slots; effects = [] }))) (enumerate_from first_driver k.path_delays)
