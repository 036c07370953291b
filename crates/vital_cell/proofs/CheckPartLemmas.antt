-- What a numbered timing check leaves, and what its parts are worth: those of a process.
use Rattle.std.proofs.Common.{◌≡◌, ℕ, true, false, List, [], ◌∷◌, ◌++◌, refl, ◌∙◌, ap}
use Rattle.std.specs.Prelude.{Bool, ◌&&◌, cond, is_some, slice_get, unwrap_or, Option, Some, None}
use Rattle.std.specs.Option.{option_map, option_map_or}
use Rattle.std.proofs.lemmas.Bool.{false≢true}
use Rattle.vital_cell.specs.Statements as E
use Rattle.vital_cell.specs.Times.{time}
use Rattle.vital_cell.specs.Variables as variables
use Rattle.vital_logic.specs.declared.level.Level.{Level}
use Rattle.vital_logic.specs.declared.level.Level.TheVariants.{X, Zero}
use Rattle.vital_machine.specs.declared.effect.Effect.{Effect}
use Rattle.vital_machine.specs.declared.effect.Effect.TheVariants as effect
use Rattle.vital_machine.specs.declared.input.Input.{Input}
use Rattle.vital_machine.specs.declared.slot.Slot.{Slot}
use Rattle.vital_machine.specs.declared.steps.CheckStep.{CheckStep}
use Rattle.vital_machine.specs.declared.steps.RecoveryStep.{RecoveryStep}
use Rattle.vital_machine.specs.Fits.{kind_of}
use Rattle.vital_machine.specs.Machine as M
use Rattle.vital_machine.specs.Seen.{Seen, bit}
use Rattle.vital_machine.specs.Slots.{with_level}
use Rattle.vital_machine.specs.Trees as N
use Rattle.vital_objects.specs.declared.variable.VariableKind.{VariableKind}
use Rattle.vital_objects.specs.declared.variable.VariableKind.TheVariants as kinds
use Rattle.vital_operands.specs.declared.tree.TimeExpr.{TimeExpr}
use Rattle.vital_operands.specs.declared.tree.TimeExpr.TheVariants as times
use Rattle.vital_sections.specs.declared.timing_check.CheckParts.{CheckParts}
use Rattle.vital_sections.specs.declared.timing_check.PeriodPulseCheck.{PeriodPulseCheck}
use Rattle.vital_sections.specs.declared.timing_check.RecoveryRemovalCheck.{RecoveryRemovalCheck}
use Rattle.vital_sections.specs.declared.timing_check.ReferenceParts.{ReferenceParts}
use Rattle.vital_sections.specs.declared.timing_check.SetupHoldCheck.{SetupHoldCheck}
use Rattle.vital_typed_cells.specs.Named.{is_timing_data, is_x01, variable_is}
use Rattle.vital_typed_cells.specs.SoundStatements.{are_sound_parts, is_sound_reference}
use Rattle.vital_typed_cells.specs.Trees.{is_sound_boolean}
use Rattle.vital_cell.specs.Formed.{IsFormed}
use Rattle.vital_cell.specs.Kinds.{AreOfKinds, is_of_kind}
use Rattle.vital_cell.specs.Named.{by_name, held_in, named}
use Rattle.vital_cell.specs.Scopes.{Scope, bit_of, names_at, names_of, names_of_variables, present}
use Rattle.vital_cell.specs.Sound.{has_bit, statement_tests, tests}
use Rattle.vital_cell.specs.Steps.{HasParts, pulse_limits, reference_of, setup_limits, time_of}
use Rattle.vital_cell.proofs.ChangeLemmas.{kinds-changed, named-changed}
use Rattle.vital_cell.proofs.FitsLemmas.{fits-kinds, kinds-suit}
use Rattle.vital_cell.proofs.KindLemmas.{found-variable}
use Rattle.vital_cell.proofs.NameLemmas.{bit-there}
use Rattle.vital_cell.proofs.PutLemmas.{level-put, numbered-by}
use Rattle.vital_cell.proofs.SoundLemmas.{first-holds, second-holds}
use Rattle.vital_tables.specs.Symbols.{edge_symbols, is_among}
use Rattle.vital_timing_checks.specs.declared.limits.PulseLimits.{PulseLimits}
use Rattle.vital_timing_checks.specs.declared.limits.RecoveryLimits.{RecoveryLimits}
use Rattle.vital_timing_checks.specs.declared.limits.SetupLimits.{SetupLimits}
use Rattle.vital_timing_checks.specs.declared.violated.Violated.{Violated}
use Rattle.vital_typed_cells.specs.Bits.{number_of}
use Rattle.vital_typed_cells.specs.Expressions as T

-- ---- states

abbrev pub made : List variables.Slot → List Effect → E.State
made slots effects = record { slots = slots; effects = effects }

pub state-same : (a b : List variables.Slot) (c d : List Effect) → a ≡ b → c ≡ d → made a c ≡ made b d
state-same a b c d slots effects = ap (λ x. made x c) slots ∙ ap (λ x. made b x) effects

-- ---- what a check leaves

x01-scalar : (l : Level) (k : VariableKind) (s : Slot) → is_x01 k ≡ true → is_of_kind k s ≡ true → held_in (with_level l s) ≡ variables.given (l ∷ []) (held_in s)
x01-scalar l (kinds.X01 d) s passes suits = level-put (kinds.X01 d) s l refl suits
x01-scalar l (kinds.Level d) s passes suits = absurd (false≢true passes)
x01-scalar l (kinds.Vector n d) s passes suits = absurd (false≢true passes)
x01-scalar l kinds.GlitchData s passes suits = absurd (false≢true passes)
x01-scalar l kinds.TimingData s passes suits = absurd (false≢true passes)
x01-scalar l kinds.PeriodData s passes suits = absurd (false≢true passes)

level-same : (e : T.Names) (c : CheckParts) (on : Bool) (o : Option Violated) → on ≡ T.truth e c.x_on → cond (is_some o && on) X Zero ≡ E.violation_level e c o
level-same e c on None is = refl
level-same e c on (Some v) is = ap (λ b. cond b X Zero) is

said-same : (k : Scope) (e : T.Names) (c : CheckParts) (x : CheckStep) (now : ℕ) (inputs : List Input) (reference : Option (List ℕ)) (on : Bool) (o : Option Violated)
    → x.test ≡ bit_of k c.test_signal → M.reference_of x.kind ≡ option_map (bit_of k) reference → on ≡ T.truth e c.msg_on
    → M.violation_said x on o ≡ E.said e (present k now inputs) c reference o
said-same k e c x now inputs reference on None test is truth = refl
said-same k e c x now inputs reference on (Some v) test is truth =
    ap (λ b. cond b (effect.Violation x.test (M.reference_of x.kind) v ∷ []) []) truth
    ∙ ap (λ n. cond (T.truth e c.msg_on) (effect.Violation n (M.reference_of x.kind) v ∷ []) []) test
    ∙ ap (λ r. cond (T.truth e c.msg_on) (effect.Violation (bit_of k c.test_signal) r v ∷ []) []) is

-- What is known of a check and of the variable in which it keeps its state.
pub record Kept (k : Scope) (slots : List Slot) (keeper : List ℕ) : Type 0 where
  pub number : ℕ
  pub held : Slot
  pub numbered : number_of (names_of_variables k) keeper ≡ Some number
  pub there : slice_get slots number ≡ Some held

pub after-stands : (k : Scope) (c : CheckParts) (keeper : List ℕ) (x : CheckStep) (st : M.State) (now : ℕ) (inputs : List Input) (run : Slot → (Slot × Option Violated)) (reference : Option (List ℕ)) (kept : variables.Held) (found : Option Violated)
    → IsFormed k → AreOfKinds k.variables st.slots → HasParts k c keeper x → variable_is is_x01 k.variables c.violation ≡ true
    → (f : Kept k st.slots keeper) → ((s : Slot) → kind_of (run s).0 ≡ kind_of s) → held_in (run f.held).0 ≡ kept → (run f.held).1 ≡ found → M.reference_of x.kind ≡ option_map (bit_of k) reference
    → by_name (names_of_variables k) (M.after_check x (N.truth (record { inputs = inputs; slots = st.slots }) x.x_on) (N.truth (record { inputs = inputs; slots = st.slots }) x.msg_on) run st)
    ≡ E.after_check (names_of k (record { inputs = inputs; slots = st.slots })) (present k now inputs) c keeper reference kept found (by_name (names_of_variables k) st)
after-stands k c keeper x st now inputs run reference kept found formed are parts violation f keeps-kinds kept-is found-is reference-is =
    let s : Seen = record { inputs = inputs; slots = st.slots } in
    let e = names_of k s in
    let fits = fits-kinds k s formed.distinct are in
    let change : Slot → Slot = λ h. (run h).0 in
    let next = M.changed x.kept change st.slots in
    let given = M.given_by x.kept run st.slots in
    let number-is : x.kept ≡ f.number = parts.kept ∙ ap (λ o. unwrap_or o 0) f.numbered in
    let given-is : given ≡ found = ap (λ n. M.given_by n run st.slots) number-is ∙ ap (λ o. option_map_or (λ h. (run h).1) o None) f.there ∙ found-is in
    let l = E.violation_level e c found in
    let l-is : cond (is_some given && N.truth s x.x_on) X Zero ≡ l =
    ap (λ o. cond (is_some o && N.truth s x.x_on) X Zero) given-is ∙ level-same e c (N.truth s x.x_on) found (parts.x_on s fits) in
    let are' = kinds-suit k.variables next st.slots (kinds-changed change keeps-kinds x.kept st.slots) are in
    let v = found-variable is_x01 k.variables next c.violation formed.distinct are' violation in
    let next-is : named (names_of_variables k) next ≡ variables.with_held keeper (λ old. kept) (named (names_of_variables k) st.slots) =
    ap (λ n. named (names_of_variables k) (M.changed n change st.slots)) number-is
    ∙ named-changed (names_of_variables k) st.slots keeper f.number f.held change (λ old. kept) formed.distinct f.numbered f.there kept-is in
    let slots-are : named (names_of_variables k) (M.changed x.violation (with_level (cond (is_some given && N.truth s x.x_on) X Zero)) next) ≡ variables.with_held c.violation (variables.given (l ∷ [])) (variables.with_held keeper (λ old. kept) (named (names_of_variables k) st.slots)) =
    ap (λ a. named (names_of_variables k) (M.changed x.violation (with_level a) next)) l-is
    ∙ ap (λ n. named (names_of_variables k) (M.changed n (with_level l) next)) parts.violation
    ∙ ap (named (names_of_variables k)) (numbered-by k c.violation v.number (with_level l) next v.numbered)
    ∙ named-changed (names_of_variables k) next c.violation v.number v.held (with_level l) (variables.given (l ∷ [])) formed.distinct v.numbered v.there (x01-scalar l v.kind v.held v.passes v.suits)
    ∙ ap (variables.with_held c.violation (variables.given (l ∷ []))) next-is in
    let said-is : st.effects ++ M.violation_said x (N.truth s x.msg_on) given ≡ st.effects ++ E.said e (present k now inputs) c reference found =
    ap (λ o. st.effects ++ M.violation_said x (N.truth s x.msg_on) o) given-is
    ∙ ap (λ es. st.effects ++ es) (said-same k e c x now inputs reference (N.truth s x.msg_on) found parts.test reference-is (parts.msg_on s fits)) in
    state-same _ _ _ _ slots-are said-is

-- ---- times

time-same : (k : Scope) (inputs : List Input) (slots : List variables.Slot) (t : TimeExpr) → time_of k t ≡ time (names_at k inputs slots) t
time-same k inputs slots (times.Literal t) = refl
time-same k inputs slots (times.Generic name) = refl
time-same k inputs slots (times.Constant name) = refl

abbrev pub setup_at : T.Names → SetupHoldCheck → SetupLimits
setup_at e c = record { setup_high = time e c.setup_high; setup_low = time e c.setup_low; hold_high = time e c.hold_high; hold_low = time e c.hold_low }

pub setup-limits : (k : Scope) (inputs : List Input) (slots : List variables.Slot) (c : SetupHoldCheck) → setup_limits k c ≡ setup_at (names_at k inputs slots) c
setup-limits k inputs slots c =
    let e = names_at k inputs slots in
    ap (λ t. record { setup_high = t; setup_low = time_of k c.setup_low; hold_high = time_of k c.hold_high; hold_low = time_of k c.hold_low }) (time-same k inputs slots c.setup_high)
    ∙ ap (λ t. record { setup_high = time e c.setup_high; setup_low = t; hold_high = time_of k c.hold_high; hold_low = time_of k c.hold_low }) (time-same k inputs slots c.setup_low)
    ∙ ap (λ t. record { setup_high = time e c.setup_high; setup_low = time e c.setup_low; hold_high = t; hold_low = time_of k c.hold_low }) (time-same k inputs slots c.hold_high)
    ∙ ap (λ t. record { setup_high = time e c.setup_high; setup_low = time e c.setup_low; hold_high = time e c.hold_high; hold_low = t }) (time-same k inputs slots c.hold_low)

abbrev pub pulse_at : T.Names → PeriodPulseCheck → PulseLimits
pulse_at e c = record { period = time e c.period; high = time e c.pulse_width_high; low = time e c.pulse_width_low }

pub pulse-limits : (k : Scope) (inputs : List Input) (slots : List variables.Slot) (c : PeriodPulseCheck) → pulse_limits k c ≡ pulse_at (names_at k inputs slots) c
pulse-limits k inputs slots c =
    let e = names_at k inputs slots in
    ap (λ t. record { period = t; high = time_of k c.pulse_width_high; low = time_of k c.pulse_width_low }) (time-same k inputs slots c.period)
    ∙ ap (λ t. record { period = time e c.period; high = t; low = time_of k c.pulse_width_low }) (time-same k inputs slots c.pulse_width_high)
    ∙ ap (λ t. record { period = time e c.period; high = time e c.pulse_width_high; low = t }) (time-same k inputs slots c.pulse_width_low)

abbrev pub recovery_at : T.Names → RecoveryRemovalCheck → RecoveryLimits
recovery_at e c = record { recovery = time e c.recovery; removal = time e c.removal; active_low = T.truth e c.active_low }

pub recovery-limits : (k : Scope) (inputs : List Input) (slots : List variables.Slot) (c : RecoveryRemovalCheck) (s : Seen) (x : RecoveryStep)
    → x.recovery ≡ time_of k c.recovery → x.removal ≡ time_of k c.removal → N.truth s x.active_low ≡ T.truth (names_at k inputs slots) c.active_low
    → M.recovery_limits s x ≡ recovery_at (names_at k inputs slots) c
recovery-limits k inputs slots c s x recovery removal truth =
    let e = names_at k inputs slots in
    ap (λ t. record { recovery = t; removal = x.removal; active_low = N.truth s x.active_low }) (recovery ∙ time-same k inputs slots c.recovery)
    ∙ ap (λ t. record { recovery = time e c.recovery; removal = t; active_low = N.truth s x.active_low }) (removal ∙ time-same k inputs slots c.removal)
    ∙ ap (λ b. record { recovery = time e c.recovery; removal = time e c.removal; active_low = b }) truth

-- ---- what the parts of a check are worth

pub record Worth (k : Scope) (s : Seen) (c : CheckParts) (x : CheckStep) : Type 0 where
  pub test : bit s x.test ≡ (names_of k s).signal c.test_signal
  pub enabled : N.truth s x.check_enabled ≡ T.truth (names_of k s) c.check_enabled

pub parts-worth : (k : Scope) (s : Seen) (c : CheckParts) (keeper : List ℕ) (x : CheckStep) → IsFormed k → AreOfKinds k.variables s.slots → HasParts k c keeper x → has_bit k c.test_signal ≡ true → Worth k s c x
parts-worth k s c keeper x formed are parts there = record {
  test = ap (bit s) parts.test ∙ bit-there k s c.test_signal there;
  enabled = parts.check_enabled s (fits-kinds k s formed.distinct are);
}

-- The bits of a sound check are there, and so is the variable of its violation.
pub violation-there : (k : Scope) (c : CheckParts) → are_sound_parts (statement_tests k) c ≡ true → variable_is is_x01 k.variables c.violation ≡ true
violation-there k c sound =
    let b = has_bit k c.test_signal in
    let rest = is_sound_boolean (tests k) c.check_enabled && (is_sound_boolean (tests k) c.x_on && is_sound_boolean (tests k) c.msg_on) in
    first-holds (variable_is is_x01 k.variables c.violation) (b && rest) sound

pub test-there : (k : Scope) (c : CheckParts) → are_sound_parts (statement_tests k) c ≡ true → has_bit k c.test_signal ≡ true
test-there k c sound =
    let a = variable_is is_x01 k.variables c.violation in
    let b = has_bit k c.test_signal in
    let rest = is_sound_boolean (tests k) c.check_enabled && (is_sound_boolean (tests k) c.x_on && is_sound_boolean (tests k) c.msg_on) in
    first-holds b rest (second-holds a (b && rest) sound)

pub reference-there : (k : Scope) (r : ReferenceParts) → is_sound_reference (statement_tests k) r ≡ true → has_bit k r.ref_signal ≡ true
reference-there k r sound =
    let a = variable_is is_timing_data k.variables r.timing_data in
    let b = has_bit k r.ref_signal in
    let c = is_among edge_symbols r.ref_transition in
    first-holds b c (second-holds a (b && c) sound)
