-- What variables begin as where their checks are looked at.
use Rattle.std.proofs.Common.{◌≡◌, ℕ, zero, suc, true, List, [], ◌∷◌, map, refl, sym, ◌∙◌, ap, subst, lit<}
use Rattle.std.specs.Prelude.{◌&&◌, slice_get, slice_set, Option, Some, None}
use Rattle.std.specs.List.{AllZip, IsDistinct, fold, list_all}
use Rattle.std.specs.Option.{option_map_or}
use Rattle.std.specs.Str.{bytes_eq}
use Rattle.std.proofs.lemmas.Bool.{false≢true}
use Rattle.std.proofs.lemmas.List.Elements.{All-cons, All-nil}
use Rattle.vital_cell.specs.Execution.{held_first}
use Rattle.vital_cell.specs.Variables as variables
use Rattle.vital_machine.specs.declared.slot.Slot.{Slot}
use Rattle.vital_machine.specs.declared.slot.Slot.TheVariants as slot
use Rattle.vital_machine.specs.Fits.{HasTimes, HaveTimes}
use Rattle.vital_objects.specs.declared.variable.Variable.{Variable}
use Rattle.vital_objects.specs.declared.variable.VariableKind.{VariableKind}
use Rattle.vital_objects.specs.declared.variable.VariableKind.TheVariants as kind
use Rattle.vital_path_delay.specs.Kept.{HasSmallTimes}
use Rattle.vital_sections.specs.declared.timing_check.RecoveryRemovalCheck.{RecoveryRemovalCheck}
use Rattle.vital_sections.specs.declared.timing_check.TimingCheck.{TimingCheck}
use Rattle.vital_sections.specs.declared.timing_check.TimingCheck.TheVariants as check
use Rattle.vital_typed_cells.specs.Named.{is_timing_data, variable_is}
use Rattle.vital_typed_cells.specs.SoundStatements.{are_sound_parts, is_sound_check, is_sound_reference}
use Rattle.vital_typed_cells.specs.Trees.{is_sound_boolean, is_sound_time}
use Rattle.vital_cell.specs.Kinds.{AreOfKinds, is_of_kind}
use Rattle.vital_cell.specs.Named.{held_in, named}
use Rattle.vital_cell.specs.Scopes.{Scope, names_at, names_of_variables}
use Rattle.vital_cell.specs.Sound.{has_bit, statement_tests, tests}
use Rattle.vital_cell.specs.Values.{AreFirst, IsBegun, begins_as, first_in, suit, suited, suited_by}
use Rattle.vital_cell.proofs.KindLemmas.{member}
use Rattle.vital_cell.proofs.SoundLemmas.{first-holds, second-holds}
use Rattle.vital_cell.proofs.ZipLemmas.{first-at, map-at, some-same}
use Rattle.vital_tables.specs.Symbols.{edge_symbols, is_among}
use Rattle.vital_timing_checks.specs.PeriodPulses as pulses
use Rattle.vital_timing_checks.specs.RecRems as recoveries
use Rattle.vital_timing_checks.specs.TimingSteps as timings
use Rattle.vital_typed_cells.specs.Bits.{number_of}

-- ---- what a variable holds first, whatever its check

record IsHeld (k : Scope) (v : Variable) (s : Slot) : Type 0 where
  held : held_in s ≡ held_first (names_at k [] []) v.kind
  kind : is_of_kind v.kind s ≡ true

begun-kind : (q : VariableKind) (s : Slot) → begins_as q s ≡ true → is_of_kind q s ≡ true
begun-kind kind.TimingData (slot.SetupHold c) is = is
begun-kind kind.TimingData (slot.RecRem c) is = refl
begun-kind kind.TimingData (slot.Level l) is = is
begun-kind kind.TimingData (slot.X01 l) is = is
begun-kind kind.TimingData (slot.Vector ls) is = is
begun-kind kind.TimingData (slot.Glitch c) is = is
begun-kind kind.TimingData (slot.PeriodPulse c) is = is
begun-kind (kind.Level default) s is = is
begun-kind (kind.X01 default) s is = is
begun-kind (kind.Vector n default) s is = is
begun-kind kind.GlitchData s is = is
begun-kind kind.PeriodData s is = is

begun-held : (k : Scope) (vs : List Variable) (slots : List Slot) → AllZip (IsBegun k) vs slots → AllZip (IsHeld k) vs slots
begun-held k [] [] are = are
begun-held k [] (s ∷ ss) are = absurd are
begun-held k (v ∷ vs) [] are = absurd are
begun-held k (v ∷ vs) (s ∷ ss) are = (record { held = are.0.held; kind = begun-kind v.kind s are.0.kind }, begun-held k vs ss are.1)

-- No time in it is above 0.
start-times : (k : Scope) (q : VariableKind) (s : Slot) → held_in s ≡ held_first (names_at k [] []) q → is_of_kind q s ≡ true → HasTimes 0 s
start-times k q (slot.Level l) held is = tt
start-times k q (slot.X01 l) held is = tt
start-times k q (slot.Vector ls) held is = tt
start-times k kind.GlitchData (slot.Glitch kept) held is = subst HasSmallTimes (sym (ap variables.glitch_in held)) (lit< tt, lit< tt)
start-times k q (slot.Glitch kept) held is = absurd (false≢true is)
start-times k kind.TimingData (slot.SetupHold c) held is = subst (timings.NoneAbove 0) (sym (ap variables.timing_in held)) (tt, tt)
start-times k q (slot.SetupHold c) held is = absurd (false≢true is)
start-times k kind.TimingData (slot.RecRem c) held is = subst (timings.NoneAbove 0) (sym (ap variables.timing_in held)) (tt, tt)
start-times k q (slot.RecRem c) held is = absurd (false≢true is)
start-times k kind.PeriodData (slot.PeriodPulse c) held is = subst (pulses.NoneAbove 0) (sym (ap variables.period_in held)) (tt, tt)
start-times k q (slot.PeriodPulse c) held is = absurd (false≢true is)

-- ---- a variable whose check is one of recovery and removal

-- What holds of all variables and what they hold goes on where one of them holds another that it holds of.
zip-set : {A B : Type 0} (R : A → B → Type 0) (xs : List A) (ys : List B) (i : ℕ) (y : B) → AllZip R xs ys → ((x : A) → slice_get xs i ≡ Some x → R x y) → AllZip R xs (slice_set ys i y)
zip-set R [] [] i y all here = all
zip-set R [] (w ∷ ws) i y all here = absurd all
zip-set R (z ∷ zs) [] i y all here = absurd all
zip-set R (z ∷ zs) (w ∷ ws) zero y all here = (here z refl, all.1)
zip-set R (z ∷ zs) (w ∷ ws) (suc i) y all here = (all.0, zip-set R zs ws i y all.1 here)

held-suited : (k : Scope) (q : VariableKind) → is_timing_data q ≡ true → held_in (slot.RecRem recoveries.unused) ≡ held_first (names_at k [] []) q
held-suited k kind.TimingData is = refl
held-suited k (kind.Level default) is = absurd (false≢true is)
held-suited k (kind.X01 default) is = absurd (false≢true is)
held-suited k (kind.Vector n default) is = absurd (false≢true is)
held-suited k kind.GlitchData is = absurd (false≢true is)
held-suited k kind.PeriodData is = absurd (false≢true is)

kind-suited : (q : VariableKind) → is_timing_data q ≡ true → is_of_kind q (slot.RecRem recoveries.unused) ≡ true
kind-suited kind.TimingData is = refl
kind-suited (kind.Level default) is = absurd (false≢true is)
kind-suited (kind.X01 default) is = absurd (false≢true is)
kind-suited (kind.Vector n default) is = absurd (false≢true is)
kind-suited kind.GlitchData is = absurd (false≢true is)
kind-suited kind.PeriodData is = absurd (false≢true is)

suit-with : (k : Scope) (vs : List Variable) (slots : List Slot) (i : ℕ) (o : Option Slot) → AllZip (IsHeld k) vs slots → ((v : Variable) → slice_get vs i ≡ Some v → is_timing_data v.kind ≡ true) → AllZip (IsHeld k) vs (option_map_or (λ s. slice_set slots i (suit s)) o slots)
suit-with k vs slots i None are is = are
suit-with k vs slots i (Some s) are is =
    zip-set (IsHeld k) vs slots i (slot.RecRem recoveries.unused) are (λ v at. record { held = held-suited k v.kind (is v at); kind = kind-suited v.kind (is v at) })

suit-named : (k : Scope) (vs : List Variable) (slots : List Slot) (name : List ℕ) → IsDistinct bytes_eq (map (λ v. v.name) vs) → variable_is is_timing_data vs name ≡ true → AllZip (IsHeld k) vs slots → AllZip (IsHeld k) vs (suited_by (number_of (map (λ v. v.name) vs) name) slots)
suit-named k vs slots name distinct is are =
    let m = member is_timing_data vs name is in
    let numbered : number_of (map (λ v. v.name) vs) name ≡ Some m.number =
    first-at (map (λ v. v.name) vs) name m.number distinct (map-at (λ v. v.name) vs m.number m.variable m.there ∙ ap Some m.is_named) in
    let P : Option ℕ → Type 0 = λ o. AllZip (IsHeld k) vs (suited_by o slots) in
    subst P (sym numbered)
    (suit-with k vs slots m.number (slice_get slots m.number) are
    (λ v at. ap (λ (u : Variable). is_timing_data u.kind) (sym (some-same m.variable v (sym m.there ∙ at))) ∙ m.passes))

-- ---- all checks

data-there : (w : Scope) (c : RecoveryRemovalCheck) → is_sound_check (statement_tests w) (check.RecoveryRemoval c) ≡ true → variable_is is_timing_data w.variables c.reference.timing_data ≡ true
data-there w c sound =
    let a = are_sound_parts (statement_tests w) c.parts in
    let b = is_sound_reference (statement_tests w) c.reference in
    let rest = is_sound_time (tests w) c.recovery && (is_sound_time (tests w) c.removal && is_sound_boolean (tests w) c.active_low) in
    let d = variable_is is_timing_data w.variables c.reference.timing_data in
    let others = has_bit w c.reference.ref_signal && is_among edge_symbols c.reference.ref_transition in
    first-holds d others (first-holds b rest (second-holds a (b && rest) sound))

suit-check : (k w : Scope) (slots : List Slot) (c : TimingCheck) → IsDistinct bytes_eq (names_of_variables w) → is_sound_check (statement_tests w) c ≡ true → AllZip (IsHeld k) w.variables slots → AllZip (IsHeld k) w.variables (suited (names_of_variables w) slots c)
suit-check k w slots (check.RecoveryRemoval c) distinct sound are = suit-named k w.variables slots c.reference.timing_data distinct (data-there w c sound) are
suit-check k w slots (check.SetupHold c) distinct sound are = are
suit-check k w slots (check.PeriodPulse c) distinct sound are = are

suit-checks : (k w : Scope) (slots : List Slot) (cs : List TimingCheck) → IsDistinct bytes_eq (names_of_variables w) → list_all (is_sound_check (statement_tests w)) cs ≡ true → AllZip (IsHeld k) w.variables slots → AllZip (IsHeld k) w.variables (fold (suited (names_of_variables w)) slots cs)
suit-checks k w slots [] distinct sound are = are
suit-checks k w slots (c ∷ cs) distinct sound are =
    let here = is_sound_check (statement_tests w) c in
    let rest = list_all (is_sound_check (statement_tests w)) cs in
    suit-checks k w (suited (names_of_variables w) slots c) cs distinct (second-holds here rest sound) (suit-check k w slots c distinct (first-holds here rest sound) are)

are-held : (k w : Scope) (cs : List TimingCheck) (slots : List Slot) → IsDistinct bytes_eq (names_of_variables w) → list_all (is_sound_check (statement_tests w)) cs ≡ true → AreFirst k (names_of_variables w) w.variables cs slots → AllZip (IsHeld k) w.variables slots
are-held k w cs slots distinct sound first =
    let P : List Slot → Type 0 = λ ss. AllZip (IsHeld k) w.variables ss in
    subst P (sym first.suit) (suit-checks k w first.begun cs distinct sound (begun-held k w.variables first.begun first.begin))

-- ---- by their names, by their kinds and with their times

abbrev slot_of : List ℕ → variables.Held → variables.Slot
slot_of name held = record { name = name; held = held }

held-named : (k : Scope) (vs : List Variable) (slots : List Slot) → AllZip (IsHeld k) vs slots → named (map (λ v. v.name) vs) slots ≡ first_in k vs
held-named k [] [] are = refl
held-named k [] (s ∷ ss) are = absurd are
held-named k (v ∷ vs) [] are = absurd are
held-named k (v ∷ vs) (s ∷ ss) are =
    ap (λ h. slot_of v.name h ∷ named (map (λ u. u.name) vs) ss) are.0.held
    ∙ ap (λ others. slot_of v.name (held_first (names_at k [] []) v.kind) ∷ others) (held-named k vs ss are.1)

held-kinds : (k : Scope) (vs : List Variable) (slots : List Slot) → AllZip (IsHeld k) vs slots → AreOfKinds vs slots
held-kinds k [] [] are = are
held-kinds k [] (s ∷ ss) are = absurd are
held-kinds k (v ∷ vs) [] are = absurd are
held-kinds k (v ∷ vs) (s ∷ ss) are = (are.0.kind, held-kinds k vs ss are.1)

held-times : (k : Scope) (vs : List Variable) (slots : List Slot) → AllZip (IsHeld k) vs slots → HaveTimes 0 slots
held-times k [] [] are = All-nil (HasTimes 0)
held-times k [] (s ∷ ss) are = absurd are
held-times k (v ∷ vs) [] are = absurd are
held-times k (v ∷ vs) (s ∷ ss) are = All-cons (HasTimes 0) s ss (start-times k v.kind s are.0.held are.0.kind) (held-times k vs ss are.1)

pub first-named : (k w : Scope) (cs : List TimingCheck) (slots : List Slot) → IsDistinct bytes_eq (names_of_variables w) → list_all (is_sound_check (statement_tests w)) cs ≡ true → AreFirst k (names_of_variables w) w.variables cs slots → named (names_of_variables w) slots ≡ first_in k w.variables
first-named k w cs slots distinct sound first = held-named k w.variables slots (are-held k w cs slots distinct sound first)

pub first-kinds : (k w : Scope) (cs : List TimingCheck) (slots : List Slot) → IsDistinct bytes_eq (names_of_variables w) → list_all (is_sound_check (statement_tests w)) cs ≡ true → AreFirst k (names_of_variables w) w.variables cs slots → AreOfKinds w.variables slots
first-kinds k w cs slots distinct sound first = held-kinds k w.variables slots (are-held k w cs slots distinct sound first)

pub first-times : (k w : Scope) (cs : List TimingCheck) (slots : List Slot) → IsDistinct bytes_eq (names_of_variables w) → list_all (is_sound_check (statement_tests w)) cs ≡ true → AreFirst k (names_of_variables w) w.variables cs slots → HaveTimes 0 slots
first-times k w cs slots distinct sound first = held-times k w.variables slots (are-held k w cs slots distinct sound first)
