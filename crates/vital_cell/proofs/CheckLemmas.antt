-- Numbered timing checks stand for those of a process.
use Rattle.std.proofs.Common.{◌≡◌, ℕ, true, false, List, [], ◌∷◌, refl, sym, ◌∙◌, ap}
use Rattle.std.specs.Prelude.{◌&&◌, cond, is_some, slice_get, Option, Some, None}
use Rattle.std.specs.List.{AllZip, fold, list_all}
use Rattle.std.specs.Option.{option_and_then, option_map_or}
use Rattle.std.proofs.lemmas.Bool.{false≢true}
use Rattle.vital_cell.specs.Statements as E
use Rattle.vital_cell.specs.Variables as variables
use Rattle.vital_logic.specs.declared.level.Level.{Level}
use Rattle.vital_logic.specs.declared.level.Level.TheVariants.{X, Zero}
use Rattle.vital_machine.specs.declared.input.Input.{Input}
use Rattle.vital_machine.specs.declared.slot.Slot.{Slot}
use Rattle.vital_machine.specs.declared.slot.Slot.TheVariants as slot
use Rattle.vital_machine.specs.declared.steps.CheckKindStep.{CheckKindStep}
use Rattle.vital_machine.specs.declared.steps.CheckKindStep.TheVariants as kind
use Rattle.vital_machine.specs.declared.steps.CheckStep.{CheckStep}
use Rattle.vital_machine.specs.declared.steps.RecoveryStep.{RecoveryStep}
use Rattle.vital_machine.specs.declared.steps.ReferenceStep.{ReferenceStep}
use Rattle.vital_machine.specs.Fits.{kind_of, kinds_of}
use Rattle.vital_machine.specs.Machine as M
use Rattle.vital_machine.specs.Seen.{Seen, bit}
use Rattle.vital_machine.specs.Slots.{with_level}
use Rattle.vital_machine.specs.Trees as N
use Rattle.vital_sections.specs.declared.timing_check.PeriodPulseCheck.{PeriodPulseCheck}
use Rattle.vital_sections.specs.declared.timing_check.RecoveryRemovalCheck.{RecoveryRemovalCheck}
use Rattle.vital_sections.specs.declared.timing_check.SetupHoldCheck.{SetupHoldCheck}
use Rattle.vital_sections.specs.declared.timing_check.TimingCheck.{TimingCheck}
use Rattle.vital_sections.specs.declared.timing_check.TimingCheck.TheVariants as check
use Rattle.vital_typed_cells.specs.KeptStates.{kept_by}
use Rattle.vital_typed_cells.specs.Named.{is_period_data, variable_is}
use Rattle.vital_typed_cells.specs.SoundStatements.{are_sound_parts, is_sound_check, is_sound_reference}
use Rattle.vital_typed_cells.specs.Trees.{is_sound_boolean, is_sound_time}
use Rattle.vital_cell.specs.Formed.{IsFormed}
use Rattle.vital_cell.specs.Kinds.{AreOfKinds, is_of_check, keeps}
use Rattle.vital_cell.specs.Named.{by_name, named}
use Rattle.vital_cell.specs.Scopes.{Scope, names_of, names_of_variables, present}
use Rattle.vital_cell.specs.Sound.{has_bit, statement_tests, tests}
use Rattle.vital_cell.specs.StandsFor.{IsTruth}
use Rattle.vital_cell.specs.Steps.{HasParts, IsCheckStep, IsKind, parts_of, pulse_limits, reference_of, setup_limits, time_of}
use Rattle.vital_cell.proofs.ChangeLemmas.{kinds-changed, read-there}
use Rattle.vital_cell.proofs.FitsLemmas.{fits-kinds, keeps-on, kinds-suit}
use Rattle.vital_cell.proofs.NameLemmas.{bit-there}
use Rattle.vital_cell.proofs.PutLemmas.{level-kept}
use Rattle.vital_cell.proofs.SoundLemmas.{first-holds, second-holds}
use Rattle.vital_timing_checks.specs.declared.limits.PulseLimits.{PulseLimits}
use Rattle.vital_timing_checks.specs.declared.limits.RecoveryLimits.{RecoveryLimits}
use Rattle.vital_timing_checks.specs.declared.limits.SetupLimits.{SetupLimits}
use Rattle.vital_timing_checks.specs.declared.period_pulse.PeriodPulse.{PeriodPulse}
use Rattle.vital_timing_checks.specs.declared.rec_rem.RecRem.{RecRem}
use Rattle.vital_timing_checks.specs.declared.setup_hold.SetupHold.{SetupHold}
use Rattle.vital_timing_checks.specs.declared.violated.Violated.{Violated}
use Rattle.vital_timing_checks.specs.PeriodPulses as pulses
use Rattle.vital_timing_checks.specs.PeriodPulses.{period_pulse_step}
use Rattle.vital_timing_checks.specs.RecRems.{rec_rem_step}
use Rattle.vital_timing_checks.specs.SetupHolds.{setup_hold_step}
use Rattle.vital_timing_checks.specs.TimingSteps as timings
use Rattle.vital_typed_cells.specs.Bits.{number_of}
use Rattle.vital_typed_cells.specs.Expressions as T
use Rattle.vital_cell.proofs.CheckPartLemmas.{Worth, after-stands, parts-worth, pulse-limits, pulse_at, recovery-limits, recovery_at, reference-there, setup-limits, setup_at, test-there, violation-there}

-- ---- setup and hold

setup-kept : (c : M.Call) (l : Level) (r : ReferenceStep) (limits : SetupLimits) (s : Slot) → kind_of (M.setup_hold c l r limits s).0 ≡ kind_of s
setup-kept c l r limits (slot.SetupHold check) = refl
setup-kept c l r limits (slot.Level a) = refl
setup-kept c l r limits (slot.X01 a) = refl
setup-kept c l r limits (slot.Vector a) = refl
setup-kept c l r limits (slot.Glitch a) = refl
setup-kept c l r limits (slot.RecRem a) = refl
setup-kept c l r limits (slot.PeriodPulse a) = refl

abbrev SetupDone : Type 0
SetupDone = SetupHold × Option Violated

setup-same : (k : Scope) (s : Seen) (now : ℕ) (c : SetupHoldCheck) (x : CheckStep) (r : ReferenceStep) (limits : SetupLimits) (kept : SetupHold) (number : ℕ)
    → Worth k s c.parts x → has_bit k c.reference.ref_signal ≡ true → (r ≡ reference_of k c.reference) × (limits ≡ setup_limits k c)
    → number_of (names_of_variables k) c.reference.timing_data ≡ Some number → slice_get s.slots number ≡ Some (slot.SetupHold kept)
    → setup_hold_step kept now (bit s x.test) (bit s r.signal) r.edges limits (N.truth s x.check_enabled)
    ≡ setup_hold_step (record { kept = variables.timing_of (named (names_of_variables k) s.slots) c.reference.timing_data }) now ((names_of k s).signal c.parts.test_signal) ((names_of k s).signal c.reference.ref_signal) (E.edges c.reference.ref_transition) (setup_at (names_of k s) c) (T.truth (names_of k s) c.parts.check_enabled)
setup-same k s now c x r limits kept number worth there is numbered at =
    let e = names_of k s in
    let kept-is = read-there variables.timing_in timings.unused (names_of_variables k) s.slots c.reference.timing_data number (slot.SetupHold kept) numbered at in
    ap (λ t. setup_hold_step (record { kept = t }) now (bit s x.test) (bit s r.signal) r.edges limits (N.truth s x.check_enabled)) (sym kept-is)
    ∙ ap (λ l. setup_hold_step (record { kept = variables.timing_of (named (names_of_variables k) s.slots) c.reference.timing_data }) now l (bit s r.signal) r.edges limits (N.truth s x.check_enabled)) worth.test
    ∙ ap (λ (q : ReferenceStep). setup_hold_step (record { kept = variables.timing_of (named (names_of_variables k) s.slots) c.reference.timing_data }) now (e.signal c.parts.test_signal) (bit s q.signal) q.edges limits (N.truth s x.check_enabled)) is.0
    ∙ ap (λ l. setup_hold_step (record { kept = variables.timing_of (named (names_of_variables k) s.slots) c.reference.timing_data }) now (e.signal c.parts.test_signal) l (E.edges c.reference.ref_transition) limits (N.truth s x.check_enabled)) (bit-there k s c.reference.ref_signal there)
    ∙ ap (λ l. setup_hold_step (record { kept = variables.timing_of (named (names_of_variables k) s.slots) c.reference.timing_data }) now (e.signal c.parts.test_signal) (e.signal c.reference.ref_signal) (E.edges c.reference.ref_transition) l (N.truth s x.check_enabled)) (is.1 ∙ setup-limits k s.inputs (named (names_of_variables k) s.slots) c)
    ∙ ap (λ b. setup_hold_step (record { kept = variables.timing_of (named (names_of_variables k) s.slots) c.reference.timing_data }) now (e.signal c.parts.test_signal) (e.signal c.reference.ref_signal) (E.edges c.reference.ref_transition) (setup_at e c) b) worth.enabled

setup-stands : (k : Scope) (c : SetupHoldCheck) (x : CheckStep) (st : M.State) (now : ℕ) (inputs : List Input) (r : ReferenceStep) (limits : SetupLimits) (held : Slot) (number : ℕ)
    → IsFormed k → AreOfKinds k.variables st.slots → HasParts k c.parts c.reference.timing_data x → is_sound_check (statement_tests k) (check.SetupHold c) ≡ true
    → x.kind ≡ kind.SetupHold r limits → (r ≡ reference_of k c.reference) × (limits ≡ setup_limits k c)
    → number_of (names_of_variables k) c.reference.timing_data ≡ Some number → slice_get st.slots number ≡ Some held → is_of_check (check.SetupHold c) held ≡ true
    → by_name (names_of_variables k) (M.check_step inputs now st x) ≡ E.timing_check (present k now inputs) (by_name (names_of_variables k) st) (check.SetupHold c)
setup-stands k c x st now inputs r limits (slot.SetupHold kept) number formed are parts sound kind-is is numbered at suits =
    let s : Seen = record { inputs = inputs; slots = st.slots } in
    let a = are_sound_parts (statement_tests k) c.parts in
    let b = is_sound_reference (statement_tests k) c.reference in
    let rest = is_sound_time (tests k) c.setup_high && (is_sound_time (tests k) c.setup_low && (is_sound_time (tests k) c.hold_high && is_sound_time (tests k) c.hold_low)) in
    let parts-are = first-holds a (b && rest) sound in
    let reference-is = first-holds b rest (second-holds a (b && rest) sound) in
    let call : M.Call = record { now = now; test = bit s x.test; enabled = N.truth s x.check_enabled } in
    let worth = parts-worth k s c.parts c.reference.timing_data x formed are parts (test-there k c.parts parts-are) in
    let done = setup-same k s now c x r limits kept number worth (reference-there k c.reference reference-is) is numbered at in
    ap (λ q. by_name (names_of_variables k) (M.after_check x (N.truth s x.x_on) (N.truth s x.msg_on) (M.check_of s call q) st)) kind-is
    ∙ after-stands k c.parts c.reference.timing_data x st now inputs (M.check_of s call (kind.SetupHold r limits)) (Some c.reference.ref_signal) _ _ formed are parts (violation-there k c.parts parts-are)
    (record { number = number; held = slot.SetupHold kept; numbered = numbered; there = at }) (setup-kept call (bit s r.signal) r limits)
    (ap (λ (d : SetupDone). variables.Timing d.0.kept) done) (ap (λ (d : SetupDone). d.1) done)
    (ap M.reference_of kind-is ∙ ap (λ (q : ReferenceStep). Some q.signal) is.0)
setup-stands k c x st now inputs r limits (slot.Level l) number formed are parts sound kind-is is numbered at suits = absurd (false≢true suits)
setup-stands k c x st now inputs r limits (slot.X01 l) number formed are parts sound kind-is is numbered at suits = absurd (false≢true suits)
setup-stands k c x st now inputs r limits (slot.Vector l) number formed are parts sound kind-is is numbered at suits = absurd (false≢true suits)
setup-stands k c x st now inputs r limits (slot.Glitch l) number formed are parts sound kind-is is numbered at suits = absurd (false≢true suits)
setup-stands k c x st now inputs r limits (slot.RecRem l) number formed are parts sound kind-is is numbered at suits = absurd (false≢true suits)
setup-stands k c x st now inputs r limits (slot.PeriodPulse l) number formed are parts sound kind-is is numbered at suits = absurd (false≢true suits)

-- ---- recovery and removal

recovery-kept : (c : M.Call) (l : Level) (r : ReferenceStep) (limits : RecoveryLimits) (s : Slot) → kind_of (M.recovery c l r limits s).0 ≡ kind_of s
recovery-kept c l r limits (slot.RecRem check) = refl
recovery-kept c l r limits (slot.Level a) = refl
recovery-kept c l r limits (slot.X01 a) = refl
recovery-kept c l r limits (slot.Vector a) = refl
recovery-kept c l r limits (slot.Glitch a) = refl
recovery-kept c l r limits (slot.SetupHold a) = refl
recovery-kept c l r limits (slot.PeriodPulse a) = refl

abbrev RecoveryDone : Type 0
RecoveryDone = RecRem × Option Violated

recovery-same : (k : Scope) (s : Seen) (now : ℕ) (c : RecoveryRemovalCheck) (x : CheckStep) (r : ReferenceStep) (limits : RecoveryLimits) (kept : RecRem) (number : ℕ)
    → Worth k s c.parts x → has_bit k c.reference.ref_signal ≡ true → r ≡ reference_of k c.reference → limits ≡ recovery_at (names_of k s) c
    → number_of (names_of_variables k) c.reference.timing_data ≡ Some number → slice_get s.slots number ≡ Some (slot.RecRem kept)
    → rec_rem_step kept now (bit s x.test) (bit s r.signal) r.edges limits (N.truth s x.check_enabled)
    ≡ rec_rem_step (record { kept = variables.timing_of (named (names_of_variables k) s.slots) c.reference.timing_data }) now ((names_of k s).signal c.parts.test_signal) ((names_of k s).signal c.reference.ref_signal) (E.edges c.reference.ref_transition) (recovery_at (names_of k s) c) (T.truth (names_of k s) c.parts.check_enabled)
recovery-same k s now c x r limits kept number worth there reference-is limits-are numbered at =
    let e = names_of k s in
    let kept-is = read-there variables.timing_in timings.unused (names_of_variables k) s.slots c.reference.timing_data number (slot.RecRem kept) numbered at in
    ap (λ t. rec_rem_step (record { kept = t }) now (bit s x.test) (bit s r.signal) r.edges limits (N.truth s x.check_enabled)) (sym kept-is)
    ∙ ap (λ l. rec_rem_step (record { kept = variables.timing_of (named (names_of_variables k) s.slots) c.reference.timing_data }) now l (bit s r.signal) r.edges limits (N.truth s x.check_enabled)) worth.test
    ∙ ap (λ (q : ReferenceStep). rec_rem_step (record { kept = variables.timing_of (named (names_of_variables k) s.slots) c.reference.timing_data }) now (e.signal c.parts.test_signal) (bit s q.signal) q.edges limits (N.truth s x.check_enabled)) reference-is
    ∙ ap (λ l. rec_rem_step (record { kept = variables.timing_of (named (names_of_variables k) s.slots) c.reference.timing_data }) now (e.signal c.parts.test_signal) l (E.edges c.reference.ref_transition) limits (N.truth s x.check_enabled)) (bit-there k s c.reference.ref_signal there)
    ∙ ap (λ l. rec_rem_step (record { kept = variables.timing_of (named (names_of_variables k) s.slots) c.reference.timing_data }) now (e.signal c.parts.test_signal) (e.signal c.reference.ref_signal) (E.edges c.reference.ref_transition) l (N.truth s x.check_enabled)) limits-are
    ∙ ap (λ b. rec_rem_step (record { kept = variables.timing_of (named (names_of_variables k) s.slots) c.reference.timing_data }) now (e.signal c.parts.test_signal) (e.signal c.reference.ref_signal) (E.edges c.reference.ref_transition) (recovery_at e c) b) worth.enabled

recovery-stands : (k : Scope) (c : RecoveryRemovalCheck) (x : CheckStep) (st : M.State) (now : ℕ) (inputs : List Input) (r : ReferenceStep) (limits : RecoveryStep) (held : Slot) (number : ℕ)
    → IsFormed k → AreOfKinds k.variables st.slots → HasParts k c.parts c.reference.timing_data x → is_sound_check (statement_tests k) (check.RecoveryRemoval c) ≡ true
    → x.kind ≡ kind.RecoveryRemoval r limits → (r ≡ reference_of k c.reference) × (limits.recovery ≡ time_of k c.recovery) × (limits.removal ≡ time_of k c.removal) × IsTruth k limits.active_low c.active_low
    → number_of (names_of_variables k) c.reference.timing_data ≡ Some number → slice_get st.slots number ≡ Some held → is_of_check (check.RecoveryRemoval c) held ≡ true
    → by_name (names_of_variables k) (M.check_step inputs now st x) ≡ E.timing_check (present k now inputs) (by_name (names_of_variables k) st) (check.RecoveryRemoval c)
recovery-stands k c x st now inputs r limits (slot.RecRem kept) number formed are parts sound kind-is is numbered at suits =
    let s : Seen = record { inputs = inputs; slots = st.slots } in
    let a = are_sound_parts (statement_tests k) c.parts in
    let b = is_sound_reference (statement_tests k) c.reference in
    let rest = is_sound_time (tests k) c.recovery && (is_sound_time (tests k) c.removal && is_sound_boolean (tests k) c.active_low) in
    let parts-are = first-holds a (b && rest) sound in
    let reference-is = first-holds b rest (second-holds a (b && rest) sound) in
    let call : M.Call = record { now = now; test = bit s x.test; enabled = N.truth s x.check_enabled } in
    let worth = parts-worth k s c.parts c.reference.timing_data x formed are parts (test-there k c.parts parts-are) in
    let limits-are = recovery-limits k inputs (named (names_of_variables k) st.slots) c s limits is.1 is.2 (is.3 s (fits-kinds k s formed.distinct are)) in
    let done = recovery-same k s now c x r (M.recovery_limits s limits) kept number worth (reference-there k c.reference reference-is) is.0 limits-are numbered at in
    ap (λ q. by_name (names_of_variables k) (M.after_check x (N.truth s x.x_on) (N.truth s x.msg_on) (M.check_of s call q) st)) kind-is
    ∙ after-stands k c.parts c.reference.timing_data x st now inputs (M.check_of s call (kind.RecoveryRemoval r limits)) (Some c.reference.ref_signal) _ _ formed are parts (violation-there k c.parts parts-are)
    (record { number = number; held = slot.RecRem kept; numbered = numbered; there = at }) (recovery-kept call (bit s r.signal) r (M.recovery_limits s limits))
    (ap (λ (d : RecoveryDone). variables.Timing d.0.kept) done) (ap (λ (d : RecoveryDone). d.1) done)
    (ap M.reference_of kind-is ∙ ap (λ (q : ReferenceStep). Some q.signal) is.0)
recovery-stands k c x st now inputs r limits (slot.Level l) number formed are parts sound kind-is is numbered at suits = absurd (false≢true suits)
recovery-stands k c x st now inputs r limits (slot.X01 l) number formed are parts sound kind-is is numbered at suits = absurd (false≢true suits)
recovery-stands k c x st now inputs r limits (slot.Vector l) number formed are parts sound kind-is is numbered at suits = absurd (false≢true suits)
recovery-stands k c x st now inputs r limits (slot.Glitch l) number formed are parts sound kind-is is numbered at suits = absurd (false≢true suits)
recovery-stands k c x st now inputs r limits (slot.SetupHold l) number formed are parts sound kind-is is numbered at suits = absurd (false≢true suits)
recovery-stands k c x st now inputs r limits (slot.PeriodPulse l) number formed are parts sound kind-is is numbered at suits = absurd (false≢true suits)

-- ---- periods and pulse widths

period-kept : (c : M.Call) (limits : PulseLimits) (s : Slot) → kind_of (M.period c limits s).0 ≡ kind_of s
period-kept c limits (slot.PeriodPulse check) = refl
period-kept c limits (slot.Level a) = refl
period-kept c limits (slot.X01 a) = refl
period-kept c limits (slot.Vector a) = refl
period-kept c limits (slot.Glitch a) = refl
period-kept c limits (slot.SetupHold a) = refl
period-kept c limits (slot.RecRem a) = refl

abbrev PeriodDone : Type 0
PeriodDone = PeriodPulse × Option Violated

period-same : (k : Scope) (s : Seen) (now : ℕ) (c : PeriodPulseCheck) (x : CheckStep) (limits : PulseLimits) (kept : PeriodPulse) (number : ℕ)
    → Worth k s c.parts x → limits ≡ pulse_limits k c
    → number_of (names_of_variables k) c.period_data ≡ Some number → slice_get s.slots number ≡ Some (slot.PeriodPulse kept)
    → period_pulse_step kept now (bit s x.test) limits (N.truth s x.check_enabled)
    ≡ period_pulse_step (variables.period_of (named (names_of_variables k) s.slots) c.period_data) now ((names_of k s).signal c.parts.test_signal) (pulse_at (names_of k s) c) (T.truth (names_of k s) c.parts.check_enabled)
period-same k s now c x limits kept number worth is numbered at =
    let e = names_of k s in
    let kept-is = read-there variables.period_in pulses.unused (names_of_variables k) s.slots c.period_data number (slot.PeriodPulse kept) numbered at in
    ap (λ p. period_pulse_step p now (bit s x.test) limits (N.truth s x.check_enabled)) (sym kept-is)
    ∙ ap (λ l. period_pulse_step (variables.period_of (named (names_of_variables k) s.slots) c.period_data) now l limits (N.truth s x.check_enabled)) worth.test
    ∙ ap (λ l. period_pulse_step (variables.period_of (named (names_of_variables k) s.slots) c.period_data) now (e.signal c.parts.test_signal) l (N.truth s x.check_enabled)) (is ∙ pulse-limits k s.inputs (named (names_of_variables k) s.slots) c)
    ∙ ap (λ b. period_pulse_step (variables.period_of (named (names_of_variables k) s.slots) c.period_data) now (e.signal c.parts.test_signal) (pulse_at e c) b) worth.enabled

period-stands : (k : Scope) (c : PeriodPulseCheck) (x : CheckStep) (st : M.State) (now : ℕ) (inputs : List Input) (limits : PulseLimits) (held : Slot) (number : ℕ)
    → IsFormed k → AreOfKinds k.variables st.slots → HasParts k c.parts c.period_data x → is_sound_check (statement_tests k) (check.PeriodPulse c) ≡ true
    → x.kind ≡ kind.PeriodPulse limits → limits ≡ pulse_limits k c
    → number_of (names_of_variables k) c.period_data ≡ Some number → slice_get st.slots number ≡ Some held → is_of_check (check.PeriodPulse c) held ≡ true
    → by_name (names_of_variables k) (M.check_step inputs now st x) ≡ E.timing_check (present k now inputs) (by_name (names_of_variables k) st) (check.PeriodPulse c)
period-stands k c x st now inputs limits (slot.PeriodPulse kept) number formed are parts sound kind-is is numbered at suits =
    let s : Seen = record { inputs = inputs; slots = st.slots } in
    let a = are_sound_parts (statement_tests k) c.parts in
    let rest = is_sound_time (tests k) c.period && (is_sound_time (tests k) c.pulse_width_high && is_sound_time (tests k) c.pulse_width_low) in
    let b = variable_is is_period_data k.variables c.period_data in
    let parts-are = first-holds a (b && rest) sound in
    let call : M.Call = record { now = now; test = bit s x.test; enabled = N.truth s x.check_enabled } in
    let worth = parts-worth k s c.parts c.period_data x formed are parts (test-there k c.parts parts-are) in
    let done = period-same k s now c x limits kept number worth is numbered at in
    ap (λ q. by_name (names_of_variables k) (M.after_check x (N.truth s x.x_on) (N.truth s x.msg_on) (M.check_of s call q) st)) kind-is
    ∙ after-stands k c.parts c.period_data x st now inputs (M.check_of s call (kind.PeriodPulse limits)) None _ _ formed are parts (violation-there k c.parts parts-are)
    (record { number = number; held = slot.PeriodPulse kept; numbered = numbered; there = at }) (period-kept call limits)
    (ap (λ (d : PeriodDone). variables.Period d.0) done) (ap (λ (d : PeriodDone). d.1) done)
    (ap M.reference_of kind-is)
period-stands k c x st now inputs limits (slot.Level l) number formed are parts sound kind-is is numbered at suits = absurd (false≢true suits)
period-stands k c x st now inputs limits (slot.X01 l) number formed are parts sound kind-is is numbered at suits = absurd (false≢true suits)
period-stands k c x st now inputs limits (slot.Vector l) number formed are parts sound kind-is is numbered at suits = absurd (false≢true suits)
period-stands k c x st now inputs limits (slot.Glitch l) number formed are parts sound kind-is is numbered at suits = absurd (false≢true suits)
period-stands k c x st now inputs limits (slot.SetupHold l) number formed are parts sound kind-is is numbered at suits = absurd (false≢true suits)
period-stands k c x st now inputs limits (slot.RecRem l) number formed are parts sound kind-is is numbered at suits = absurd (false≢true suits)

-- ---- a check

-- The variable of a check with what it holds.
pub record CheckKept (names : List (List ℕ)) (slots : List Slot) (c : TimingCheck) : Type 0 where
  pub number : ℕ
  pub held : Slot
  pub numbered : number_of names (kept_by c) ≡ Some number
  pub there : slice_get slots number ≡ Some held
  pub suits : is_of_check c held ≡ true

kept-slot : (names : List (List ℕ)) (slots : List Slot) (c : TimingCheck) (n : ℕ) (o : Option Slot) → number_of names (kept_by c) ≡ Some n → slice_get slots n ≡ o → option_map_or (is_of_check c) o false ≡ true → CheckKept names slots c
kept-slot names slots c n None numbered at is = absurd (false≢true is)
kept-slot names slots c n (Some s) numbered at is = record { number = n; held = s; numbered = numbered; there = at; suits = is }

kept-number : (names : List (List ℕ)) (slots : List Slot) (c : TimingCheck) (o : Option ℕ) → number_of names (kept_by c) ≡ o → option_map_or (is_of_check c) (option_and_then (slice_get slots) o) false ≡ true → CheckKept names slots c
kept-number names slots c None numbered is = absurd (false≢true is)
kept-number names slots c (Some n) numbered is = kept-slot names slots c n (slice_get slots n) numbered refl is

check-kept-in : (names : List (List ℕ)) (slots : List Slot) (c : TimingCheck) → keeps names slots c ≡ true → CheckKept names slots c
check-kept-in names slots c is = kept-number names slots c (number_of names (kept_by c)) refl is

check-with : (k : Scope) (c : TimingCheck) (x : CheckStep) (st : M.State) (now : ℕ) (inputs : List Input) (q : CheckKindStep)
    → IsFormed k → AreOfKinds k.variables st.slots → HasParts k (parts_of c) (kept_by c) x → is_sound_check (statement_tests k) c ≡ true
    → x.kind ≡ q → IsKind k c q → CheckKept (names_of_variables k) st.slots c
    → by_name (names_of_variables k) (M.check_step inputs now st x) ≡ E.timing_check (present k now inputs) (by_name (names_of_variables k) st) c
check-with k (check.SetupHold c) x st now inputs (kind.SetupHold r limits) formed are parts sound kind-is is f = setup-stands k c x st now inputs r limits f.held f.number formed are parts sound kind-is is f.numbered f.there f.suits
check-with k (check.SetupHold c) x st now inputs (kind.RecoveryRemoval r limits) formed are parts sound kind-is is f = absurd is
check-with k (check.SetupHold c) x st now inputs (kind.PeriodPulse limits) formed are parts sound kind-is is f = absurd is
check-with k (check.RecoveryRemoval c) x st now inputs (kind.SetupHold r limits) formed are parts sound kind-is is f = absurd is
check-with k (check.RecoveryRemoval c) x st now inputs (kind.RecoveryRemoval r limits) formed are parts sound kind-is is f = recovery-stands k c x st now inputs r limits f.held f.number formed are parts sound kind-is is f.numbered f.there f.suits
check-with k (check.RecoveryRemoval c) x st now inputs (kind.PeriodPulse limits) formed are parts sound kind-is is f = absurd is
check-with k (check.PeriodPulse c) x st now inputs (kind.SetupHold r limits) formed are parts sound kind-is is f = absurd is
check-with k (check.PeriodPulse c) x st now inputs (kind.RecoveryRemoval r limits) formed are parts sound kind-is is f = absurd is
check-with k (check.PeriodPulse c) x st now inputs (kind.PeriodPulse limits) formed are parts sound kind-is is f = period-stands k c x st now inputs limits f.held f.number formed are parts sound kind-is is f.numbered f.there f.suits

pub check-stands : (k : Scope) (c : TimingCheck) (x : CheckStep) (st : M.State) (now : ℕ) (inputs : List Input)
    → IsFormed k → AreOfKinds k.variables st.slots → is_sound_check (statement_tests k) c ≡ true → keeps (names_of_variables k) st.slots c ≡ true → IsCheckStep k c x
    → by_name (names_of_variables k) (M.check_step inputs now st x) ≡ E.timing_check (present k now inputs) (by_name (names_of_variables k) st) c
check-stands k c x st now inputs formed are sound kept is = check-with k c x st now inputs x.kind formed are is.parts sound refl is.kind (check-kept-in (names_of_variables k) st.slots c kept)

run-kept : (s : Seen) (call : M.Call) (q : CheckKindStep) (held : Slot) → kind_of (M.check_of s call q held).0 ≡ kind_of held
run-kept s call (kind.SetupHold r limits) held = setup-kept call (bit s r.signal) r limits held
run-kept s call (kind.RecoveryRemoval r limits) held = recovery-kept call (bit s r.signal) r (M.recovery_limits s limits) held
run-kept s call (kind.PeriodPulse limits) held = period-kept call limits held

pub check-kept : (inputs : List Input) (now : ℕ) (st : M.State) (x : CheckStep) → kinds_of (M.check_step inputs now st x).slots ≡ kinds_of st.slots
check-kept inputs now st x =
    let s : Seen = record { inputs = inputs; slots = st.slots } in
    let call : M.Call = record { now = now; test = bit s x.test; enabled = N.truth s x.check_enabled } in
    let run = M.check_of s call x.kind in
    let l = cond (is_some (M.given_by x.kept run st.slots) && N.truth s x.x_on) X Zero in
    kinds-changed (with_level l) (level-kept l) x.violation (M.changed x.kept (λ h. (run h).0) st.slots) ∙ kinds-changed (λ h. (run h).0) (run-kept s call x.kind) x.kept st.slots

-- ---- all checks

pub all-keep-on : (names : List (List ℕ)) (now before : List Slot) (cs : List TimingCheck) → kinds_of now ≡ kinds_of before → list_all (keeps names before) cs ≡ true → list_all (keeps names now) cs ≡ true
all-keep-on names now before [] same all = refl
all-keep-on names now before (c ∷ cs) same all =
    let a = keeps names before c in
    let b = list_all (keeps names before) cs in
    ap (λ x. x && list_all (keeps names now) cs) (keeps-on names now before c same (first-holds a b all)) ∙ all-keep-on names now before cs same (second-holds a b all)

pub checks-stand : (k : Scope) (cs : List TimingCheck) (xs : List CheckStep) (st : M.State) (now : ℕ) (inputs : List Input)
    → IsFormed k → AreOfKinds k.variables st.slots → list_all (is_sound_check (statement_tests k)) cs ≡ true → list_all (keeps (names_of_variables k) st.slots) cs ≡ true → AllZip (IsCheckStep k) cs xs
    → by_name (names_of_variables k) (fold (M.check_step inputs now) st xs) ≡ fold (E.timing_check (present k now inputs)) (by_name (names_of_variables k) st) cs
checks-stand k [] [] st now inputs formed are sound kept is = refl
checks-stand k [] (x ∷ xs) st now inputs formed are sound kept is = absurd is
checks-stand k (c ∷ cs) [] st now inputs formed are sound kept is = absurd is
checks-stand k (c ∷ cs) (x ∷ xs) st now inputs formed are sound kept is =
    let a = is_sound_check (statement_tests k) c in
    let b = list_all (is_sound_check (statement_tests k)) cs in
    let here = keeps (names_of_variables k) st.slots c in
    let others = list_all (keeps (names_of_variables k) st.slots) cs in
    let next = M.check_step inputs now st x in
    let same = check-kept inputs now st x in
    checks-stand k cs xs next now inputs formed (kinds-suit k.variables next.slots st.slots same are) (second-holds a b sound)
    (all-keep-on (names_of_variables k) next.slots st.slots cs same (second-holds here others kept)) is.1
    ∙ ap (λ y. fold (E.timing_check (present k now inputs)) y cs) (check-stands k c x st now inputs formed are (first-holds a b sound) (first-holds here others kept) is.0)

pub checks-kept : (inputs : List Input) (now : ℕ) (st : M.State) (xs : List CheckStep) → kinds_of (fold (M.check_step inputs now) st xs).slots ≡ kinds_of st.slots
checks-kept inputs now st [] = refl
checks-kept inputs now st (x ∷ xs) = checks-kept inputs now (M.check_step inputs now st x) xs ∙ check-kept inputs now st x
