-- What the numbered steps are that stand for the statements of a process.
use Rattle.std.specs.Prelude.{◌≡◌, ℕ, List, []}
use Rattle.std.specs.List.{AllZip, enumerate_from}
use Rattle.vital_actuals.specs.declared.actual.Path.{Path}
use Rattle.vital_actuals.specs.declared.target.Target.{Target}
use Rattle.vital_actuals.specs.declared.target.Target.TheVariants as target
use Rattle.vital_cell.specs.Statements.{edges}
use Rattle.vital_cell.specs.Times.{delay_worth, time}
use Rattle.vital_expr.specs.Vectors.{length_of}
use Rattle.vital_machine.specs.declared.steps.CheckKindStep.{CheckKindStep}
use Rattle.vital_machine.specs.declared.steps.CheckKindStep.TheVariants as kind
use Rattle.vital_machine.specs.declared.steps.CheckStep.{CheckStep}
use Rattle.vital_machine.specs.declared.steps.FunctionalStep.{FunctionalStep}
use Rattle.vital_machine.specs.declared.steps.FunctionalStep.TheVariants as step
use Rattle.vital_machine.specs.declared.steps.PathDelayStep.{PathDelayStep}
use Rattle.vital_machine.specs.declared.steps.PathStep.{PathStep}
use Rattle.vital_machine.specs.declared.steps.Place.{Place}
use Rattle.vital_machine.specs.declared.steps.Place.TheVariants as place
use Rattle.vital_machine.specs.declared.steps.ProcessSteps.{ProcessSteps}
use Rattle.vital_machine.specs.declared.steps.ReferenceStep.{ReferenceStep}
use Rattle.vital_machine.specs.declared.steps.StateTableStep.{StateTableStep}
use Rattle.vital_operands.specs.declared.tree.DelayExpr.{DelayExpr}
use Rattle.vital_operands.specs.declared.tree.TimeExpr.{TimeExpr}
use Rattle.vital_sections.specs.declared.path_delay.PathDelay.{PathDelay}
use Rattle.vital_sections.specs.declared.sections.FunctionalStatement.{FunctionalStatement}
use Rattle.vital_sections.specs.declared.sections.FunctionalStatement.TheVariants as statement
use Rattle.vital_sections.specs.declared.sections.Sections.{Sections}
use Rattle.vital_sections.specs.declared.state_table.StateTable.{StateTable}
use Rattle.vital_sections.specs.declared.timing_check.CheckParts.{CheckParts}
use Rattle.vital_sections.specs.declared.timing_check.PeriodPulseCheck.{PeriodPulseCheck}
use Rattle.vital_sections.specs.declared.timing_check.ReferenceParts.{ReferenceParts}
use Rattle.vital_sections.specs.declared.timing_check.SetupHoldCheck.{SetupHoldCheck}
use Rattle.vital_sections.specs.declared.timing_check.TimingCheck.{TimingCheck}
use Rattle.vital_sections.specs.declared.timing_check.TimingCheck.TheVariants as check
use Rattle.vital_typed_cells.specs.KeptStates.{kept_by}
use Rattle.vital_cell.specs.Scopes.{Scope, bit_of, names_at, variable_of}
use Rattle.vital_cell.specs.Sound.{rows_named}
use Rattle.vital_cell.specs.StandsFor.{IsLevel, IsTruth, IsVector}
use Rattle.vital_table.specs.Tables.{Table}
use Rattle.vital_timing.specs.declared.delay.Delay.{Delay}
use Rattle.vital_timing_checks.specs.declared.limits.PulseLimits.{PulseLimits}
use Rattle.vital_timing_checks.specs.declared.limits.SetupLimits.{SetupLimits}
use Rattle.vital_typed_statements.specs.declared.statement.Value.{Value}
use Rattle.vital_typed_statements.specs.declared.statement.Value.TheVariants as value
use Rattle.vital_typed_statements.specs.StateTables.{results_of}

-- ---- what is known where a cell is compiled: times and delays name no signal and no variable

abbrev pub time_of : Scope → TimeExpr → ℕ
time_of k t = time (names_at k [] []) t

abbrev pub delay_of : Scope → DelayExpr → Delay
delay_of k t = delay_worth (names_at k [] []) t

-- ---- functionality

abbrev pub place_of : Scope → Target → Place
place_of k (target.Level name) = place.Level (variable_of k name)
place_of k (target.Element name n) = place.Element (variable_of k name) n
place_of k (target.Vector name n) = place.Vector (variable_of k name)

abbrev pub table_of : Scope → StateTable → Table
table_of k call = record { inputs = length_of call.data_in; states = call.num_states; results = results_of call.result; rows = rows_named k call.table }

pub record IsTableStep (k : Scope) (call : StateTable) (s : StateTableStep) : Type 0 where
  pub table : s.table ≡ table_of k call
  pub data_in : IsVector k s.data_in call.data_in
  pub result : s.result ≡ place_of k call.result
  pub previous : s.previous_data_in ≡ variable_of k call.previous_data_in

abbrev pub IsAssignmentStep : Scope → Target → Value → FunctionalStep → Type 0
IsAssignmentStep k t (value.Level e) (step.Level p tree) = (p ≡ place_of k t) × IsLevel k tree e
IsAssignmentStep k t (value.Vector e) (step.Vector p tree) = (p ≡ place_of k t) × IsVector k tree e
IsAssignmentStep k t other s = ⊥

abbrev pub IsFunctionalStep : Scope → FunctionalStatement → FunctionalStep → Type 0
IsFunctionalStep k (statement.Assignment t v) s = IsAssignmentStep k t v s
IsFunctionalStep k (statement.StateTable call) (step.StateTable s) = IsTableStep k call s
IsFunctionalStep k other s = ⊥

-- ---- timing checks

pub record HasParts (k : Scope) (parts : CheckParts) (keeper : List ℕ) (s : CheckStep) : Type 0 where
  pub test : s.test ≡ bit_of k parts.test_signal
  pub violation : s.violation ≡ variable_of k parts.violation
  pub kept : s.kept ≡ variable_of k keeper
  pub check_enabled : IsTruth k s.check_enabled parts.check_enabled
  pub x_on : IsTruth k s.x_on parts.x_on
  pub msg_on : IsTruth k s.msg_on parts.msg_on

abbrev pub reference_of : Scope → ReferenceParts → ReferenceStep
reference_of k r = record { signal = bit_of k r.ref_signal; edges = edges r.ref_transition }

abbrev pub setup_limits : Scope → SetupHoldCheck → SetupLimits
setup_limits k c = record {
  setup_high = time_of k c.setup_high;
  setup_low = time_of k c.setup_low;
  hold_high = time_of k c.hold_high;
  hold_low = time_of k c.hold_low;
}

abbrev pub pulse_limits : Scope → PeriodPulseCheck → PulseLimits
pulse_limits k c = record { period = time_of k c.period; high = time_of k c.pulse_width_high; low = time_of k c.pulse_width_low }

abbrev pub IsKind : Scope → TimingCheck → CheckKindStep → Type 0
IsKind k (check.SetupHold c) (kind.SetupHold r limits) = (r ≡ reference_of k c.reference) × (limits ≡ setup_limits k c)
IsKind k (check.RecoveryRemoval c) (kind.RecoveryRemoval r limits) =
    (r ≡ reference_of k c.reference) × (limits.recovery ≡ time_of k c.recovery) × (limits.removal ≡ time_of k c.removal) × IsTruth k limits.active_low c.active_low
IsKind k (check.PeriodPulse c) (kind.PeriodPulse limits) = limits ≡ pulse_limits k c
IsKind k other s = ⊥

abbrev pub parts_of : TimingCheck → CheckParts
parts_of (check.SetupHold c) = c.parts
parts_of (check.RecoveryRemoval c) = c.parts
parts_of (check.PeriodPulse c) = c.parts

pub record IsCheckStep (k : Scope) (c : TimingCheck) (s : CheckStep) : Type 0 where
  pub parts : HasParts k (parts_of c) (kept_by c) s
  pub kind : IsKind k c s.kind

-- ---- path delays

pub record IsPathStep (k : Scope) (p : Path) (s : PathStep) : Type 0 where
  pub signal : s.signal ≡ bit_of k p.signal
  pub delay : s.delay ≡ delay_of k p.delay
  pub condition : IsTruth k s.condition p.condition

-- A path delay with its driver.
pub record IsDelayStep (k : Scope) (d : ℕ × PathDelay) (s : PathDelayStep) : Type 0 where
  pub driver : s.driver ≡ d.0
  pub out_signal : s.out_signal ≡ bit_of k d.1.out_signal
  pub glitch_data : s.glitch_data ≡ variable_of k d.1.glitch_data
  pub out_temp : IsLevel k s.out_temp d.1.out_temp
  pub paths : AllZip (IsPathStep k) d.1.paths s.paths
  pub default_delay : s.default_delay ≡ delay_of k d.1.default_delay
  pub mode : s.mode ≡ d.1.mode
  pub x_on : IsTruth k s.x_on d.1.x_on
  pub msg_on : IsTruth k s.msg_on d.1.msg_on

-- ---- the statements of a process, whose first driver has a number

pub record AreSteps (k : Scope) (first_driver : ℕ) (sections : Sections) (s : ProcessSteps) : Type 0 where
  pub checks : AllZip (IsCheckStep k) sections.checks s.checks
  pub functionality : AllZip (IsFunctionalStep k) sections.functionality s.functionality
  pub path_delays : AllZip (IsDelayStep k) (enumerate_from first_driver sections.path_delays) s.path_delays
