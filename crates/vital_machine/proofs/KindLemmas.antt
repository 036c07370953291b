-- No activation changes what kinds of values variables hold.
use Rattle.std.proofs.Common.{◌≡◌, ℕ, List, [], ◌∷◌, length, length-set, map, replicate, refl, sym, ◌∙◌, ap}
use Rattle.std.specs.Prelude.{Bool, true, false, nat_lt, slice_get, slice_set, Option, Some, None, if◌then◌else◌}
use Rattle.std.specs.List.{fold, slice_index_or}
use Rattle.std.specs.Option.{option_map_or}
use Rattle.std.proofs.lemmas.List.FromFn.{length-map-range_with_len}
use Rattle.std.proofs.lemmas.Option.{get_or_from_slice_get}
use Rattle.vital_machine.specs.declared.input.Input.{Input}
use Rattle.vital_machine.specs.declared.slot.Slot.{Slot}
use Rattle.vital_machine.specs.declared.slot.Slot.TheVariants as slot
use Rattle.vital_machine.specs.declared.steps.CheckKindStep.{CheckKindStep}
use Rattle.vital_machine.specs.declared.steps.CheckKindStep.TheVariants as kind
use Rattle.vital_machine.specs.declared.steps.CheckStep.{CheckStep}
use Rattle.vital_machine.specs.declared.steps.Executed.{Executed}
use Rattle.vital_machine.specs.declared.steps.Executed.TheVariants as executed
use Rattle.vital_machine.specs.declared.steps.FunctionalStep.{FunctionalStep}
use Rattle.vital_machine.specs.declared.steps.FunctionalStep.TheVariants as functional
use Rattle.vital_machine.specs.declared.steps.PathDelayStep.{PathDelayStep}
use Rattle.vital_machine.specs.declared.steps.Place.{Place}
use Rattle.vital_machine.specs.declared.steps.Place.TheVariants as place
use Rattle.vital_machine.specs.declared.steps.ReferenceStep.{ReferenceStep}
use Rattle.vital_machine.specs.Fits.{kind_of, kinds_of}
use Rattle.vital_machine.specs.Machine.{Call, State, activation, after_functionality, changed, check_of, check_step, checked, delay_of, delay_step, functional_step, period, put, recovery, setup_hold, timed}
use Rattle.vital_machine.specs.Seen.{Seen}
use Rattle.vital_machine.specs.Slots.{with_element, with_level, with_levels}
use Rattle.vital_machine.specs.Trees.{level, truth}
use Rattle.vital_machine.specs.TruthTables.{fitted}
use Rattle.vital_machine.proofs.ChangeLemmas.{map-same_set}
use Rattle.vital_primitives.specs.Operators.{first}
use Rattle.vital_logic.specs.declared.level.Level.{Level}
use Rattle.vital_logic.specs.declared.level.Level.TheVariants.{U}
use Rattle.vital_path_delay.specs.declared.path.Path.{Path}
use Rattle.vital_timing_checks.specs.declared.limits.PulseLimits.{PulseLimits}
use Rattle.vital_timing_checks.specs.declared.limits.RecoveryLimits.{RecoveryLimits}
use Rattle.vital_timing_checks.specs.declared.limits.SetupLimits.{SetupLimits}

-- ---- one variable

changed-of : (number : ℕ) (change : Slot → Slot) (slots : List Slot) → ((s : Slot) → kind_of (change s) ≡ kind_of s) → (o : Option Slot) → slice_get slots number ≡ o → kinds_of (option_map_or (λ s. slice_set slots number (change s)) o slots) ≡ kinds_of slots
changed-of number change slots same None is = refl
changed-of number change slots same (Some s) is =
    map-same_set kind_of slots number (change s) s (same s ∙ ap kind_of (sym (get_or_from_slice_get slots number s s is)))

kinds-changed : (number : ℕ) (change : Slot → Slot) (slots : List Slot) → ((s : Slot) → kind_of (change s) ≡ kind_of s) → kinds_of (changed number change slots) ≡ kinds_of slots
kinds-changed number change slots same = changed-of number change slots same (slice_get slots number) refl

level-kind : (l : Level) (s : Slot) → kind_of (with_level l s) ≡ kind_of s
level-kind l (slot.Level old) = refl
level-kind l (slot.X01 old) = refl
level-kind l (slot.Vector ls) = refl
level-kind l (slot.Glitch kept) = refl
level-kind l (slot.SetupHold check) = refl
level-kind l (slot.RecRem check) = refl
level-kind l (slot.PeriodPulse check) = refl

vector-kind : (new old : List Level) → length new ≡ length old → kind_of (slot.Vector new) ≡ kind_of (slot.Vector old)
vector-kind new old same = ap (λ n. slot.Vector (replicate n U)) same

chosen-length : (b : Bool) (n : ℕ) (l : Level) (ls : List Level) → length (if b then slice_set ls n l else ls) ≡ length ls
chosen-length true n l ls = length-set ls n l
chosen-length false n l ls = refl

element-kind : (n : ℕ) (l : Level) (s : Slot) → kind_of (with_element n l s) ≡ kind_of s
element-kind n l (slot.Level old) = refl
element-kind n l (slot.X01 old) = refl
element-kind n l (slot.Vector ls) = vector-kind (if nat_lt n (length ls) then slice_set ls n l else ls) ls (chosen-length (nat_lt n (length ls)) n l ls)
element-kind n l (slot.Glitch kept) = refl
element-kind n l (slot.SetupHold check) = refl
element-kind n l (slot.RecRem check) = refl
element-kind n l (slot.PeriodPulse check) = refl

levels-kind : (ls : List Level) (s : Slot) → kind_of (with_levels ls s) ≡ kind_of s
levels-kind ls (slot.Level old) = refl
levels-kind ls (slot.X01 old) = refl
levels-kind ls (slot.Vector old) = vector-kind (fitted (length old) ls) old (length-map-range_with_len (λ i. slice_index_or ls i U) 0 (length old))
levels-kind ls (slot.Glitch kept) = refl
levels-kind ls (slot.SetupHold check) = refl
levels-kind ls (slot.RecRem check) = refl
levels-kind ls (slot.PeriodPulse check) = refl

-- ---- functionality

put-kinds : (p : Place) (ls : List Level) (slots : List Slot) → kinds_of (put p ls slots) ≡ kinds_of slots
put-kinds (place.Level number) ls slots = kinds-changed number (with_level (first ls)) slots (level-kind (first ls))
put-kinds (place.Element number n) ls slots = kinds-changed number (with_element n (first ls)) slots (element-kind n (first ls))
put-kinds (place.Vector number) ls slots = kinds-changed number (with_levels ls) slots (levels-kind ls)

functional-kinds : (inputs : List Input) (slots : List Slot) (step : FunctionalStep) → kinds_of (functional_step inputs slots step) ≡ kinds_of slots
functional-kinds inputs slots (functional.Level p t) = put-kinds p _ slots
functional-kinds inputs slots (functional.Vector p t) = put-kinds p _ slots
functional-kinds inputs slots (functional.StateTable call) = kinds-changed call.previous_data_in (with_levels _) _ (levels-kind _) ∙ put-kinds call.result _ slots

functionality-kinds : (inputs : List Input) (slots : List Slot) (steps : List FunctionalStep) → kinds_of (fold (functional_step inputs) slots steps) ≡ kinds_of slots
functionality-kinds inputs slots [] = refl
functionality-kinds inputs slots (step ∷ steps) = functionality-kinds inputs (functional_step inputs slots step) steps ∙ functional-kinds inputs slots step

-- ---- timing checks

setup_hold-kind : (c : Call) (l : Level) (r : ReferenceStep) (limits : SetupLimits) (s : Slot) → kind_of (setup_hold c l r limits s).0 ≡ kind_of s
setup_hold-kind c l r limits (slot.Level old) = refl
setup_hold-kind c l r limits (slot.X01 old) = refl
setup_hold-kind c l r limits (slot.Vector ls) = refl
setup_hold-kind c l r limits (slot.Glitch kept) = refl
setup_hold-kind c l r limits (slot.SetupHold check) = refl
setup_hold-kind c l r limits (slot.RecRem check) = refl
setup_hold-kind c l r limits (slot.PeriodPulse check) = refl

recovery-kind : (c : Call) (l : Level) (r : ReferenceStep) (limits : RecoveryLimits) (s : Slot) → kind_of (recovery c l r limits s).0 ≡ kind_of s
recovery-kind c l r limits (slot.Level old) = refl
recovery-kind c l r limits (slot.X01 old) = refl
recovery-kind c l r limits (slot.Vector ls) = refl
recovery-kind c l r limits (slot.Glitch kept) = refl
recovery-kind c l r limits (slot.SetupHold check) = refl
recovery-kind c l r limits (slot.RecRem check) = refl
recovery-kind c l r limits (slot.PeriodPulse check) = refl

period-kind : (c : Call) (limits : PulseLimits) (s : Slot) → kind_of (period c limits s).0 ≡ kind_of s
period-kind c limits (slot.Level old) = refl
period-kind c limits (slot.X01 old) = refl
period-kind c limits (slot.Vector ls) = refl
period-kind c limits (slot.Glitch kept) = refl
period-kind c limits (slot.SetupHold check) = refl
period-kind c limits (slot.RecRem check) = refl
period-kind c limits (slot.PeriodPulse check) = refl

check-kind : (seen : Seen) (c : Call) (k : CheckKindStep) (s : Slot) → kind_of (check_of seen c k s).0 ≡ kind_of s
check-kind seen c (kind.SetupHold r limits) s = setup_hold-kind c _ r limits s
check-kind seen c (kind.RecoveryRemoval r limits) s = recovery-kind c _ r _ s
check-kind seen c (kind.PeriodPulse limits) s = period-kind c limits s

check-kinds : (inputs : List Input) (now : ℕ) (st : State) (step : CheckStep) → kinds_of (check_step inputs now st step).slots ≡ kinds_of st.slots
check-kinds inputs now st step =
    kinds-changed step.violation (with_level _) _ (level-kind _) ∙ kinds-changed step.kept _ st.slots (check-kind _ _ step.kind)

checks-kinds : (inputs : List Input) (now : ℕ) (st : State) (steps : List CheckStep) → kinds_of (fold (check_step inputs now) st steps).slots ≡ kinds_of st.slots
checks-kinds inputs now st [] = refl
checks-kinds inputs now st (step ∷ steps) = checks-kinds inputs now (check_step inputs now st step) steps ∙ check-kinds inputs now st step

-- ---- path delays

delay-kind : (d : PathDelayStep) (paths : List Path) (x_on : Bool) (now : ℕ) (l : Level) (s : Slot) → kind_of (delay_of d paths x_on now l s).0 ≡ kind_of s
delay-kind d paths x_on now l (slot.Level old) = refl
delay-kind d paths x_on now l (slot.X01 old) = refl
delay-kind d paths x_on now l (slot.Vector ls) = refl
delay-kind d paths x_on now l (slot.Glitch kept) = refl
delay-kind d paths x_on now l (slot.SetupHold check) = refl
delay-kind d paths x_on now l (slot.RecRem check) = refl
delay-kind d paths x_on now l (slot.PeriodPulse check) = refl

delay-kinds : (inputs : List Input) (now : ℕ) (st : State) (step : PathDelayStep) → kinds_of (delay_step inputs now st step).slots ≡ kinds_of st.slots
delay-kinds inputs now st step =
    let s : Seen = record { inputs = inputs; slots = st.slots } in
    kinds-changed step.glitch_data (λ held. (delay_of step (map (timed s) step.paths) (truth s step.x_on) now (level s step.out_temp) held).0) st.slots
    (delay-kind step (map (timed s) step.paths) (truth s step.x_on) now (level s step.out_temp))

delays-kinds : (inputs : List Input) (now : ℕ) (st : State) (steps : List PathDelayStep) → kinds_of (fold (delay_step inputs now) st steps).slots ≡ kinds_of st.slots
delays-kinds inputs now st [] = refl
delays-kinds inputs now st (step ∷ steps) =
    delays-kinds inputs now (delay_step inputs now st step) steps ∙ delay-kinds inputs now st step

-- ---- processes

checked-kinds : (inputs : List Input) (now : ℕ) (began : State) (steps : List CheckStep) (on : Bool) → kinds_of (checked inputs on now began steps).slots ≡ kinds_of began.slots
checked-kinds inputs now began steps true = checks-kinds inputs now began steps
checked-kinds inputs now began steps false = refl

pub activation-kinds : (inputs : List Input) (checks_on : Bool) (now : ℕ) (slots : List Slot) (steps : Executed) → kinds_of (activation inputs checks_on now slots steps).slots ≡ kinds_of slots
activation-kinds inputs checks_on now slots (executed.Wire w) = refl
activation-kinds inputs checks_on now slots (executed.Process p) =
    let began : State = record { slots = slots; effects = [] } in
    let st = checked inputs checks_on now began p.checks in
    delays-kinds inputs now (after_functionality inputs p.functionality st) p.path_delays
    ∙ functionality-kinds inputs st.slots p.functionality
    ∙ checked-kinds inputs now began p.checks checks_on
