-- The times that variables keep: what fits a time fits each later one, and what no call of a check or of a path delay changes fits on.
use Rattle.std.proofs.Common.{◌≡◌, ℕ, ◌≤◌, List, [], ◌∷◌, get_or, refl, subst, arith}
use Rattle.std.specs.Prelude.{slice_get, slice_set, Option, Some, None}
use Rattle.std.specs.List.{fold}
use Rattle.std.specs.Option.{option_map_or}
use Rattle.std.proofs.lemmas.List.Elements.{All-get_or, All-set, All-weaker}
use Rattle.std.proofs.lemmas.Option.{get_or_from_slice_get, IfSome_then, slice_get_within}
use Rattle.vital_machine.specs.declared.input.Input.{Input}
use Rattle.vital_machine.specs.declared.slot.Slot.{Slot}
use Rattle.vital_machine.specs.declared.slot.Slot.TheVariants as slot
use Rattle.vital_machine.specs.declared.steps.FunctionalStep.{FunctionalStep}
use Rattle.vital_machine.specs.declared.steps.FunctionalStep.TheVariants as functional
use Rattle.vital_machine.specs.declared.steps.Place.{Place}
use Rattle.vital_machine.specs.declared.steps.Place.TheVariants as place
use Rattle.vital_machine.specs.Fits.{HasTimes, HaveTimes}
use Rattle.vital_machine.specs.Machine.{changed, functional_step, put}
use Rattle.vital_machine.specs.Slots.{with_element, with_level, with_levels}
use Rattle.vital_primitives.specs.Operators.{first}
use Rattle.vital_logic.specs.declared.level.Level.{Level}

-- ---- later times

slot-later : (now later : ℕ) → now ≤ later → (s : Slot) → HasTimes now s → HasTimes later s
slot-later now later le (slot.Level l) has = has
slot-later now later le (slot.X01 l) has = has
slot-later now later le (slot.Vector ls) has = has
slot-later now later le (slot.Glitch kept) has = has
slot-later now later le (slot.SetupHold check) has =
    (IfSome_then check.kept.test_time has.0 (λ time below. omega arith), IfSome_then check.kept.edge has.1 (λ edge below. omega arith))
slot-later now later le (slot.RecRem check) has =
    (IfSome_then check.kept.test_time has.0 (λ time below. omega arith), IfSome_then check.kept.edge has.1 (λ edge below. omega arith))
slot-later now later le (slot.PeriodPulse check) has =
    (IfSome_then check.rise has.0 (λ time below. omega arith), IfSome_then check.fall has.1 (λ time below. omega arith))

pub times-later : (now later : ℕ) (slots : List Slot) → now ≤ later → HaveTimes now slots → HaveTimes later slots
times-later now later slots le have = All-weaker (HasTimes now) (HasTimes later) (slot-later now later le) slots have

-- One variable is new.
pub times-set : (now later : ℕ) (slots : List Slot) (i : ℕ) (new : Slot) → now ≤ later → HaveTimes now slots → HasTimes later new → HaveTimes later (slice_set slots i new)
times-set now later slots i new le have has = All-set (HasTimes later) slots i new has (times-later now later slots le have)

-- ---- levels

level-keeps : (now : ℕ) (l : Level) (s : Slot) → HasTimes now s → HasTimes now (with_level l s)
level-keeps now l (slot.Level old) has = has
level-keeps now l (slot.X01 old) has = has
level-keeps now l (slot.Vector ls) has = has
level-keeps now l (slot.Glitch kept) has = has
level-keeps now l (slot.SetupHold check) has = has
level-keeps now l (slot.RecRem check) has = has
level-keeps now l (slot.PeriodPulse check) has = has

element-keeps : (now n : ℕ) (l : Level) (s : Slot) → HasTimes now s → HasTimes now (with_element n l s)
element-keeps now n l (slot.Level old) has = has
element-keeps now n l (slot.X01 old) has = has
element-keeps now n l (slot.Vector ls) has = has
element-keeps now n l (slot.Glitch kept) has = has
element-keeps now n l (slot.SetupHold check) has = has
element-keeps now n l (slot.RecRem check) has = has
element-keeps now n l (slot.PeriodPulse check) has = has

levels-keep : (now : ℕ) (ls : List Level) (s : Slot) → HasTimes now s → HasTimes now (with_levels ls s)
levels-keep now ls (slot.Level old) has = has
levels-keep now ls (slot.X01 old) has = has
levels-keep now ls (slot.Vector old) has = has
levels-keep now ls (slot.Glitch kept) has = has
levels-keep now ls (slot.SetupHold check) has = has
levels-keep now ls (slot.RecRem check) has = has
levels-keep now ls (slot.PeriodPulse check) has = has

-- ---- what is changed

changed-of : (now number : ℕ) (change : Slot → Slot) (slots : List Slot) → ((s : Slot) → HasTimes now s → HasTimes now (change s)) → HaveTimes now slots → (o : Option Slot) → slice_get slots number ≡ o → HaveTimes now (option_map_or (λ s. slice_set slots number (change s)) o slots)
changed-of now number change slots keeps have None is = have
changed-of now number change slots keeps have (Some s) is =
    let at : get_or slots number s ≡ s = get_or_from_slice_get slots number s s is in
    let held : HasTimes now s = subst (HasTimes now) at (All-get_or (HasTimes now) slots number s (slice_get_within slots number s is) have) in
    All-set (HasTimes now) slots number (change s) (keeps s held) have

times-changed : (now number : ℕ) (change : Slot → Slot) (slots : List Slot) → ((s : Slot) → HasTimes now s → HasTimes now (change s)) → HaveTimes now slots → HaveTimes now (changed number change slots)
times-changed now number change slots keeps have = changed-of now number change slots keeps have (slice_get slots number) refl

pub level-times : (now number : ℕ) (l : Level) (slots : List Slot) → HaveTimes now slots → HaveTimes now (changed number (with_level l) slots)
level-times now number l slots have = times-changed now number (with_level l) slots (level-keeps now l) have

levels-times : (now number : ℕ) (ls : List Level) (slots : List Slot) → HaveTimes now slots → HaveTimes now (changed number (with_levels ls) slots)
levels-times now number ls slots have = times-changed now number (with_levels ls) slots (levels-keep now ls) have

put-times : (now : ℕ) (p : Place) (ls : List Level) (slots : List Slot) → HaveTimes now slots → HaveTimes now (put p ls slots)
put-times now (place.Level number) ls slots have = level-times now number (first ls) slots have
put-times now (place.Element number n) ls slots have = times-changed now number (with_element n (first ls)) slots (element-keeps now n (first ls)) have
put-times now (place.Vector number) ls slots have = levels-times now number ls slots have

functional-times : (now : ℕ) (inputs : List Input) (slots : List Slot) (step : FunctionalStep) → HaveTimes now slots → HaveTimes now (functional_step inputs slots step)
functional-times now inputs slots (functional.Level p t) have = put-times now p _ slots have
functional-times now inputs slots (functional.Vector p t) have = put-times now p _ slots have
functional-times now inputs slots (functional.StateTable call) have = levels-times now call.previous_data_in _ _ (put-times now call.result _ slots have)

-- The statements of a functionality keep the times.
pub functionality-times : (now : ℕ) (inputs : List Input) (slots : List Slot) (steps : List FunctionalStep) → HaveTimes now slots → HaveTimes now (fold (functional_step inputs) slots steps)
functionality-times now inputs slots [] have = have
functionality-times now inputs slots (step ∷ steps) have = functionality-times now inputs (functional_step inputs slots step) steps (functional-times now inputs slots step have)
