-- Statements of a sound process are sound where numbered steps are made of them.
use Rattle.std.proofs.Common.{◌≡◌, ℕ, true, List, refl}
use Rattle.std.specs.Prelude.{Bool}
use Rattle.std.proofs.lemmas.Bool.{false≢true}
use Rattle.vital_actuals.specs.declared.actual.Path.{Path}
use Rattle.vital_actuals.specs.declared.target.Target.{Target}
use Rattle.vital_actuals.specs.declared.target.Target.TheVariants as target
use Rattle.vital_cell.proofs.BitLemmas.{bit-there}
use Rattle.vital_cell.proofs.ConstantLemmas.{state-tabled, truth-tabled}
use Rattle.vital_cell.proofs.CellListLemmas.{all-more, and-more}
use Rattle.vital_cell.proofs.CellValueLemmas.{process-knows}
use Rattle.vital_cell.proofs.WiderLemmas.{IsWider, delay-wider, fitting-wider, level-wider, time-wider, truth-wider}
use Rattle.vital_expr.specs.Vectors.{length_of}
use Rattle.vital_operands.specs.declared.tree.ConstantName.{ConstantName}
use Rattle.vital_sections.specs.declared.path_delay.PathDelay.{PathDelay}
use Rattle.vital_sections.specs.declared.sections.FunctionalStatement.{FunctionalStatement}
use Rattle.vital_sections.specs.declared.sections.FunctionalStatement.TheVariants as functional
use Rattle.vital_sections.specs.declared.sections.Sections.{Sections}
use Rattle.vital_sections.specs.declared.state_table.StateTable.{StateTable}
use Rattle.vital_sections.specs.declared.timing_check.CheckParts.{CheckParts}
use Rattle.vital_sections.specs.declared.timing_check.PeriodPulseCheck.{PeriodPulseCheck}
use Rattle.vital_sections.specs.declared.timing_check.RecoveryRemovalCheck.{RecoveryRemovalCheck}
use Rattle.vital_sections.specs.declared.timing_check.ReferenceParts.{ReferenceParts}
use Rattle.vital_sections.specs.declared.timing_check.SetupHoldCheck.{SetupHoldCheck}
use Rattle.vital_sections.specs.declared.timing_check.TimingCheck.{TimingCheck}
use Rattle.vital_sections.specs.declared.timing_check.TimingCheck.TheVariants as check
use Rattle.vital_typed_cells.specs.ActualScopes.{ActualScope}
use Rattle.vital_typed_cells.specs.ExprScopes.{Scope}
use Rattle.vital_typed_cells.specs.Scopes.{StateTableTest, actuals_in, in_process, scope_of, state_tables_in}
use Rattle.vital_typed_cells.specs.Sound.{IsSoundProcess}
use Rattle.vital_typed_cells.specs.SoundActuals.{is_sound_path, is_sound_target}
use Rattle.vital_typed_cells.specs.SoundAssignments.{is_sound_value}
use Rattle.vital_typed_cells.specs.SoundSections.{are_sound_sections, is_sound_functional, is_sound_state_table}
use Rattle.vital_typed_cells.specs.SoundStatements.{are_sound_parts, is_sound_check, is_sound_path_delay, is_sound_period_pulse, is_sound_recovery_removal, is_sound_reference, is_sound_setup_hold}
use Rattle.vital_cell.specs.Sound.{has_state_table, statement_tests, tests}
use Rattle.vital_cell.specs.Values.{scope_of_process}
use Rattle.vital_timing.specs.declared.delay.Delay.{Delay}
use Rattle.vital_timing.specs.declared.delay.DelayType.{DelayType}
use Rattle.vital_typed_cells.specs.declared.process.CellProcess.{CellProcess}
use Rattle.vital_typed_cells.specs.declared.typed_cell.TypedCell.{TypedCell}
use Rattle.vital_typed_statements.specs.declared.statement.Value.{Value}
use Rattle.vital_typed_statements.specs.declared.statement.Value.TheVariants as value

-- Names of actuals in the first scope mean as much in the second one.
pub record IsWiderFor (s t : ActualScope) : Type 0 where
  pub names : IsWider s.names t.names
  pub outputs : (name : List ℕ) → s.has_output name ≡ true → t.has_output name ≡ true
  pub violations : (name : List ℕ) → s.has_violation name ≡ true → t.has_violation name ≡ true
  pub glitches : (name : List ℕ) → s.has_glitch_data name ≡ true → t.has_glitch_data name ≡ true
  pub timings : (name : List ℕ) → s.has_timing_data name ≡ true → t.has_timing_data name ≡ true
  pub periods : (name : List ℕ) → s.has_period_data name ≡ true → t.has_period_data name ≡ true

same : {b : Bool} → b ≡ true → b ≡ true
same is = is

-- ---- timing checks

parts-wider : (s t : ActualScope) → IsWiderFor s t → (p : CheckParts) → are_sound_parts s p ≡ true → are_sound_parts t p ≡ true
parts-wider s t w p =
    and-more (w.violations p.violation)
    (and-more (w.names.signals p.test_signal)
    (and-more (truth-wider s.names t.names w.names p.check_enabled)
    (and-more (truth-wider s.names t.names w.names p.x_on) (truth-wider s.names t.names w.names p.msg_on))))

reference-wider : (s t : ActualScope) → IsWiderFor s t → (r : ReferenceParts) → is_sound_reference s r ≡ true → is_sound_reference t r ≡ true
reference-wider s t w r = and-more (w.timings r.timing_data) (and-more (w.names.signals r.ref_signal) same)

setup-wider : (s t : ActualScope) → IsWiderFor s t → (k : SetupHoldCheck) → is_sound_setup_hold s k ≡ true → is_sound_setup_hold t k ≡ true
setup-wider s t w k =
    and-more (parts-wider s t w k.parts)
    (and-more (reference-wider s t w k.reference)
    (and-more (time-wider s.names t.names w.names k.setup_high)
    (and-more (time-wider s.names t.names w.names k.setup_low)
    (and-more (time-wider s.names t.names w.names k.hold_high) (time-wider s.names t.names w.names k.hold_low)))))

recovery-wider : (s t : ActualScope) → IsWiderFor s t → (k : RecoveryRemovalCheck) → is_sound_recovery_removal s k ≡ true → is_sound_recovery_removal t k ≡ true
recovery-wider s t w k =
    and-more (parts-wider s t w k.parts)
    (and-more (reference-wider s t w k.reference)
    (and-more (time-wider s.names t.names w.names k.recovery)
    (and-more (time-wider s.names t.names w.names k.removal) (truth-wider s.names t.names w.names k.active_low))))

period-wider : (s t : ActualScope) → IsWiderFor s t → (k : PeriodPulseCheck) → is_sound_period_pulse s k ≡ true → is_sound_period_pulse t k ≡ true
period-wider s t w k =
    and-more (parts-wider s t w k.parts)
    (and-more (w.periods k.period_data)
    (and-more (time-wider s.names t.names w.names k.period)
    (and-more (time-wider s.names t.names w.names k.pulse_width_high) (time-wider s.names t.names w.names k.pulse_width_low))))

check-wider : (s t : ActualScope) → IsWiderFor s t → (k : TimingCheck) → is_sound_check s k ≡ true → is_sound_check t k ≡ true
check-wider s t w (check.SetupHold k) = setup-wider s t w k
check-wider s t w (check.RecoveryRemoval k) = recovery-wider s t w k
check-wider s t w (check.PeriodPulse k) = period-wider s t w k

-- ---- path delays

path-wider : (s t : Scope) → IsWider s t → (d : DelayType) (p : Path) → is_sound_path s d p ≡ true → is_sound_path t d p ≡ true
path-wider s t w d p = and-more (w.signals p.signal) (and-more (delay-wider s t w d p.delay) (truth-wider s t w p.condition))

path-delay-wider : (s t : ActualScope) → IsWiderFor s t → (k : PathDelay) → is_sound_path_delay s k ≡ true → is_sound_path_delay t k ≡ true
path-delay-wider s t w k =
    and-more (w.outputs k.out_signal)
    (and-more (w.glitches k.glitch_data)
    (and-more (level-wider s.names t.names w.names k.out_temp)
    (and-more (all-more (is_sound_path s.names k.delay_type) (is_sound_path t.names k.delay_type) (path-wider s.names t.names w.names k.delay_type) k.paths)
    (and-more (delay-wider s.names t.names w.names k.delay_type k.default_delay)
    (and-more (truth-wider s.names t.names w.names k.x_on) (truth-wider s.names t.names w.names k.msg_on))))))

-- ---- functionality

target-wider : (s t : Scope) → IsWider s t → (x : Target) → is_sound_target s x ≡ true → is_sound_target t x ≡ true
target-wider s t w (target.Level name) = w.variables name
target-wider s t w (target.Element name n) = w.elements name n
target-wider s t w (target.Vector name n) = w.vectors name n

value-wider : (s t : Scope) → IsWider s t → (x : Target) (v : Value) → is_sound_value s x v ≡ true → is_sound_value t x v ≡ true
value-wider s t w (target.Level name) (value.Level e) is = level-wider s t w e is
value-wider s t w (target.Level name) (value.Vector v) is = absurd (false≢true is)
value-wider s t w (target.Element name n) (value.Level e) is = level-wider s t w e is
value-wider s t w (target.Element name n) (value.Vector v) is = absurd (false≢true is)
value-wider s t w (target.Vector name n) (value.Level e) is = absurd (false≢true is)
value-wider s t w (target.Vector name n) (value.Vector v) is = fitting-wider s t w n v is

-- Tables of calls that fit in the first scope fit in the second one.
abbrev pub AreTabled : StateTableTest → StateTableTest → Type 0
AreTabled f g = (name : ConstantName) (n m r : ℕ) → f name n m r ≡ true → g name n m r ≡ true

state-table-wider : (f g : StateTableTest) → AreTabled f g → (s t : Scope) → IsWider s t → (k : StateTable) → is_sound_state_table f s k ≡ true → is_sound_state_table g t k ≡ true
state-table-wider f g tabled s t w k =
    and-more (fitting-wider s t w (length_of k.data_in) k.data_in)
    (and-more (target-wider s t w k.result)
    (and-more same (and-more (tabled k.table (length_of k.data_in) k.num_states _) (w.vectors k.previous_data_in (length_of k.data_in)))))

functional-wider : (f g : StateTableTest) → AreTabled f g → (s t : Scope) → IsWider s t → (x : FunctionalStatement) → is_sound_functional f s x ≡ true → is_sound_functional g t x ≡ true
functional-wider f g tabled s t w (functional.Assignment x v) = and-more (target-wider s t w x) (value-wider s t w x v)
functional-wider f g tabled s t w (functional.StateTable k) = state-table-wider f g tabled s t w k

-- ---- sections

sections-wider : (f g : StateTableTest) → AreTabled f g → (s t : ActualScope) → IsWiderFor s t → (k : Sections) → are_sound_sections f s k ≡ true → are_sound_sections g t k ≡ true
sections-wider f g tabled s t w k =
    and-more (all-more (is_sound_check s) (is_sound_check t) (check-wider s t w) k.checks)
    (and-more (all-more (is_sound_functional f s.names) (is_sound_functional g t.names) (functional-wider f g tabled s.names t.names w.names) k.functionality)
    (all-more (is_sound_path_delay s) (is_sound_path_delay t) (path-delay-wider s t w) k.path_delays))

-- ---- those of a process

names-wider : (c : TypedCell) (values : List Delay) (p : CellProcess) → IsSoundProcess c p → IsWider (scope_of (in_process c p)) (tests (scope_of_process c values p))
names-wider c values p sound = record {
  signals = bit-there c.ports c.signals;
  variables = λ name is. is;
  elements = λ name n is. is;
  vectors = λ name n is. is;
  levels = λ name is. refl;
  times = λ name is. refl;
  delays = λ d name is. refl;
  generics = λ d name is. refl;
  tables = truth-tabled c.packages c.constants p.constants (scope_of_process c values p) (process-knows c values p (scope_of_process c values p) sound refl refl);
}

actuals-wider : (c : TypedCell) (values : List Delay) (p : CellProcess) → IsSoundProcess c p → IsWiderFor (actuals_in c p) (statement_tests (scope_of_process c values p))
actuals-wider c values p sound = record {
  names = names-wider c values p sound;
  outputs = λ name is. refl;
  violations = λ name is. is;
  glitches = λ name is. is;
  timings = λ name is. is;
  periods = λ name is. is;
}

pub sections-sound : (c : TypedCell) (values : List Delay) (p : CellProcess) → IsSoundProcess c p
    → are_sound_sections (has_state_table (scope_of_process c values p)) (statement_tests (scope_of_process c values p)) p.sections ≡ true
sections-sound c values p sound =
    let k = scope_of_process c values p in
    sections-wider (state_tables_in (in_process c p)) (has_state_table k) (state-tabled c.packages c.constants p.constants k (process-knows c values p k sound refl refl))
    (actuals_in c p) (statement_tests k) (actuals-wider c values p sound) p.sections sound.statements_typed
