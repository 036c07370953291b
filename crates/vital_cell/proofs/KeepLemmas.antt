-- What each check keeps is its own where variables begin.
use Rattle.std.proofs.Common.{◌≡◌, ℕ, zero, suc, true, false, List, [], ◌∷◌, map, refl, sym, ◌∙◌, ap}
use Rattle.std.specs.Prelude.{Bool, ◌&&◌, slice_get, slice_set, Option, Some, None, ⊤}
use Rattle.std.specs.List.{AllByRecursion, AllZip, IsDistinct, fold, list_all}
use Rattle.std.specs.Option.{option_and_then, option_map_or}
use Rattle.std.specs.Str.{bytes_eq}
use Rattle.std.proofs.lemmas.Bool.{false≢true}
use Rattle.std.proofs.lemmas.Map.Keys.{IsDistinct-head, IsDistinct-tail}
use Rattle.vital_machine.specs.declared.slot.Slot.{Slot}
use Rattle.vital_machine.specs.declared.slot.Slot.TheVariants as slot
use Rattle.vital_objects.specs.declared.variable.Variable.{Variable}
use Rattle.vital_objects.specs.declared.variable.VariableKind.{VariableKind}
use Rattle.vital_objects.specs.declared.variable.VariableKind.TheVariants as kind
use Rattle.vital_sections.specs.declared.timing_check.PeriodPulseCheck.{PeriodPulseCheck}
use Rattle.vital_sections.specs.declared.timing_check.SetupHoldCheck.{SetupHoldCheck}
use Rattle.vital_sections.specs.declared.timing_check.TimingCheck.{TimingCheck}
use Rattle.vital_sections.specs.declared.timing_check.TimingCheck.TheVariants as check
use Rattle.vital_typed_cells.specs.KeptStates.{kept_by}
use Rattle.vital_typed_cells.specs.Named.{is_period_data, is_timing_data, variable_is}
use Rattle.vital_typed_cells.specs.SoundStatements.{are_sound_parts, is_sound_check, is_sound_reference}
use Rattle.vital_typed_cells.specs.Trees.{is_sound_boolean, is_sound_time}
use Rattle.vital_cell.specs.Kinds.{is_of_check, keeps}
use Rattle.vital_cell.specs.Scopes.{Scope, names_of_variables}
use Rattle.vital_cell.specs.Sound.{has_bit, statement_tests, tests}
use Rattle.vital_cell.specs.Values.{AreFirst, IsBegun, begins_as, suit, suited, suited_by}
use Rattle.vital_cell.proofs.KindLemmas.{member}
use Rattle.vital_cell.proofs.SoundLemmas.{first-holds, second-holds}
use Rattle.vital_cell.proofs.ZipLemmas.{first-at, map-at, none≢some, other-name, same-name, some-same, there}
use Rattle.vital_tables.specs.Symbols.{edge_symbols, is_among}
use Rattle.vital_typed_cells.specs.Bits.{number_of}

-- ---- a list with one element set

set-other : {A : Type 0} (ys : List A) (m n : ℕ) (y : A) → (m ≡ n → ⊥) → slice_get (slice_set ys m y) n ≡ slice_get ys n
set-other [] m n y differ = refl
set-other (z ∷ zs) zero zero y differ = absurd (differ refl)
set-other (z ∷ zs) zero (suc n) y differ = refl
set-other (z ∷ zs) (suc m) zero y differ = refl
set-other (z ∷ zs) (suc m) (suc n) y differ = set-other zs m n y (λ is. differ (ap suc is))

set-same : {A : Type 0} (ys : List A) (n : ℕ) (s y : A) → slice_get ys n ≡ Some s → slice_get (slice_set ys n y) n ≡ Some y
set-same [] n s y is = absurd (none≢some s is)
set-same (z ∷ zs) zero s y is = refl
set-same (z ∷ zs) (suc n) s y is = set-same zs n s y is

-- ---- what a check does to the variable of a name

suit-other : (slots : List Slot) (m n : ℕ) (o : Option Slot) → (m ≡ n → ⊥) → slice_get (option_map_or (λ s. slice_set slots m (suit s)) o slots) n ≡ slice_get slots n
suit-other slots m n None differ = refl
suit-other slots m n (Some s) differ = set-other slots m n (suit s) differ

numbers-differ : (names : List (List ℕ)) (name other : List ℕ) (n m : ℕ) → number_of names name ≡ Some n → number_of names other ≡ Some m → bytes_eq name other ≡ false → m ≡ n → ⊥
numbers-differ names name other n m is other-is differs same =
    let equal = some-same other name (sym (there names other m other-is) ∙ ap (slice_get names) same ∙ there names name n is) in
    false≢true (sym differs ∙ ap (bytes_eq name) equal ∙ same-name name)

suited-other : (names : List (List ℕ)) (slots : List Slot) (name other : List ℕ) (n : ℕ) (o : Option ℕ) → number_of names name ≡ Some n → number_of names other ≡ o → bytes_eq name other ≡ false → slice_get (suited_by o slots) n ≡ slice_get slots n
suited-other names slots name other n None is other-is differs = refl
suited-other names slots name other n (Some m) is other-is differs = suit-other slots m n (slice_get slots m) (numbers-differ names name other n m is other-is differs)

other-slot : (names : List (List ℕ)) (slots : List Slot) (c : TimingCheck) (name : List ℕ) (n : ℕ) → number_of names name ≡ Some n → bytes_eq name (kept_by c) ≡ false → slice_get (suited names slots c) n ≡ slice_get slots n
other-slot names slots (check.RecoveryRemoval c) name n is differs = suited-other names slots name c.reference.timing_data n (number_of names c.reference.timing_data) is refl differs
other-slot names slots (check.SetupHold c) name n is differs = refl
other-slot names slots (check.PeriodPulse c) name n is differs = refl

rest-same : (names : List (List ℕ)) (cs : List TimingCheck) (slots : List Slot) (name : List ℕ) (n : ℕ) → number_of names name ≡ Some n → AllByRecursion (λ other. bytes_eq name other ≡ false) (map kept_by cs) → slice_get (fold (suited names) slots cs) n ≡ slice_get slots n
rest-same names [] slots name n is differ = refl
rest-same names (c ∷ cs) slots name n is differ = rest-same names cs (suited names slots c) name n is differ.1 ∙ other-slot names slots c name n is differ.0

abbrev suited_of : TimingCheck → Slot → Slot
suited_of (check.RecoveryRemoval c) held = suit held
suited_of other held = held

own-slot : (names : List (List ℕ)) (slots : List Slot) (c : TimingCheck) (n : ℕ) (held : Slot) → number_of names (kept_by c) ≡ Some n → slice_get slots n ≡ Some held → slice_get (suited names slots c) n ≡ Some (suited_of c held)
own-slot names slots (check.RecoveryRemoval c) n held is at =
    ap (λ o. slice_get (suited_by o slots) n) is
    ∙ ap (λ o. slice_get (option_map_or (λ s. slice_set slots n (suit s)) o slots) n) at
    ∙ set-same slots n held (suit held) at
own-slot names slots (check.SetupHold c) n held is at = at
own-slot names slots (check.PeriodPulse c) n held is at = at

-- ---- all checks

-- The variable of a check holds what it may begin with.
record IsFresh (names : List (List ℕ)) (slots : List Slot) (c : TimingCheck) : Type 0 where
  number : ℕ
  held : Slot
  numbered : number_of names (kept_by c) ≡ Some number
  at : slice_get slots number ≡ Some held
  suits : is_of_check c (suited_of c held) ≡ true

abbrev AreFresh : List (List ℕ) → List Slot → List TimingCheck → Type 0
AreFresh names slots [] = ⊤
AreFresh names slots (c ∷ cs) = IsFresh names slots c × AreFresh names slots cs

fresh-after : (names : List (List ℕ)) (slots : List Slot) (c : TimingCheck) (ds : List TimingCheck) → AllByRecursion (λ other. bytes_eq (kept_by c) other ≡ false) (map kept_by ds) → AreFresh names slots ds → AreFresh names (suited names slots c) ds
fresh-after names slots c [] differ fresh = fresh
fresh-after names slots c (d ∷ ds) differ fresh =
    let f = fresh.0 in (
      record {
        number = f.number;
        held = f.held;
        numbered = f.numbered;
        at = other-slot names slots c (kept_by d) f.number f.numbered (other-name (kept_by c) (kept_by d) differ.0) ∙ f.at;
        suits = f.suits;
      },
      fresh-after names slots c ds differ.1 fresh.1,
    )

keeps-there : (names : List (List ℕ)) (slots : List Slot) (c : TimingCheck) (n : ℕ) (held : Slot) → number_of names (kept_by c) ≡ Some n → slice_get slots n ≡ Some held → is_of_check c held ≡ true → keeps names slots c ≡ true
keeps-there names slots c n held is at suits =
    ap (λ o. option_map_or (is_of_check c) (option_and_then (slice_get slots) o) false) is ∙ ap (λ o. option_map_or (is_of_check c) o false) at ∙ suits

keep-all : (names : List (List ℕ)) (cs : List TimingCheck) (slots last : List Slot) → AreFresh names slots cs → IsDistinct bytes_eq (map kept_by cs) → last ≡ fold (suited names) slots cs → list_all (keeps names last) cs ≡ true
keep-all names [] slots last fresh distinct is = refl
keep-all names (c ∷ cs) slots last fresh distinct is =
    let f = fresh.0 in
    let differ = IsDistinct-head bytes_eq (kept_by c) (map kept_by cs) distinct in
    let next = suited names slots c in
    let at = ap (λ ss. slice_get ss f.number) is ∙ rest-same names cs next (kept_by c) f.number f.numbered differ ∙ own-slot names slots c f.number f.held f.numbered f.at in
    ap (λ b. b && list_all (keeps names last) cs) (keeps-there names last c f.number (suited_of c f.held) f.numbered at f.suits)
    ∙ keep-all names cs next last (fresh-after names slots c cs differ fresh.1) (IsDistinct-tail bytes_eq (kept_by c) (map kept_by cs) distinct) is

-- ---- where variables begin

record BegunAt (k : Scope) (v : Variable) (slots : List Slot) (n : ℕ) : Type 0 where
  held : Slot
  at : slice_get slots n ≡ Some held
  begins : begins_as v.kind held ≡ true

begun-at : (k : Scope) (vs : List Variable) (slots : List Slot) (i : ℕ) (v : Variable) → AllZip (IsBegun k) vs slots → slice_get vs i ≡ Some v → BegunAt k v slots i
begun-at k [] slots i v are is = absurd (none≢some v is)
begun-at k (w ∷ ws) [] i v are is = absurd are
begun-at k (w ∷ ws) (s ∷ ss) zero v are is = record { held = s; at = refl; begins = ap (λ (u : Variable). begins_as u.kind s) (sym (some-same w v is)) ∙ are.0.kind }
begun-at k (w ∷ ws) (s ∷ ss) (suc i) v are is =
    let b = begun-at k ws ss i v are.1 is in
    record { held = b.held; at = b.at; begins = b.begins }

fresh-of : (k : Scope) (vs : List Variable) (slots : List Slot) (c : TimingCheck) (test : VariableKind → Bool) → IsDistinct bytes_eq (map (λ v. v.name) vs) → AllZip (IsBegun k) vs slots → variable_is test vs (kept_by c) ≡ true
    → ((q : VariableKind) (s : Slot) → test q ≡ true → begins_as q s ≡ true → is_of_check c (suited_of c s) ≡ true) → IsFresh (map (λ v. v.name) vs) slots c
fresh-of k vs slots c test distinct are is suits =
    let m = member test vs (kept_by c) is in
    let b = begun-at k vs slots m.number m.variable are m.there in
    record {
      number = m.number;
      held = b.held;
      numbered = first-at (map (λ v. v.name) vs) (kept_by c) m.number distinct (map-at (λ v. v.name) vs m.number m.variable m.there ∙ ap Some m.is_named);
      at = b.at;
      suits = suits m.variable.kind b.held m.passes b.begins;
    }

setup-begun : (c : SetupHoldCheck) (q : VariableKind) (s : Slot) → is_timing_data q ≡ true → begins_as q s ≡ true → is_of_check (check.SetupHold c) s ≡ true
setup-begun c kind.TimingData (slot.SetupHold kept) is begins = refl
setup-begun c kind.TimingData (slot.RecRem kept) is begins = absurd (false≢true begins)
setup-begun c kind.TimingData (slot.Level l) is begins = absurd (false≢true begins)
setup-begun c kind.TimingData (slot.X01 l) is begins = absurd (false≢true begins)
setup-begun c kind.TimingData (slot.Vector ls) is begins = absurd (false≢true begins)
setup-begun c kind.TimingData (slot.Glitch kept) is begins = absurd (false≢true begins)
setup-begun c kind.TimingData (slot.PeriodPulse kept) is begins = absurd (false≢true begins)
setup-begun c (kind.Level default) s is begins = absurd (false≢true is)
setup-begun c (kind.X01 default) s is begins = absurd (false≢true is)
setup-begun c (kind.Vector n default) s is begins = absurd (false≢true is)
setup-begun c kind.GlitchData s is begins = absurd (false≢true is)
setup-begun c kind.PeriodData s is begins = absurd (false≢true is)

period-begun : (c : PeriodPulseCheck) (q : VariableKind) (s : Slot) → is_period_data q ≡ true → begins_as q s ≡ true → is_of_check (check.PeriodPulse c) s ≡ true
period-begun c kind.PeriodData (slot.PeriodPulse kept) is begins = refl
period-begun c kind.PeriodData (slot.SetupHold kept) is begins = absurd (false≢true begins)
period-begun c kind.PeriodData (slot.RecRem kept) is begins = absurd (false≢true begins)
period-begun c kind.PeriodData (slot.Level l) is begins = absurd (false≢true begins)
period-begun c kind.PeriodData (slot.X01 l) is begins = absurd (false≢true begins)
period-begun c kind.PeriodData (slot.Vector ls) is begins = absurd (false≢true begins)
period-begun c kind.PeriodData (slot.Glitch kept) is begins = absurd (false≢true begins)
period-begun c (kind.Level default) s is begins = absurd (false≢true is)
period-begun c (kind.X01 default) s is begins = absurd (false≢true is)
period-begun c (kind.Vector n default) s is begins = absurd (false≢true is)
period-begun c kind.GlitchData s is begins = absurd (false≢true is)
period-begun c kind.TimingData s is begins = absurd (false≢true is)

fresh-check : (k w : Scope) (slots : List Slot) (c : TimingCheck) → IsDistinct bytes_eq (names_of_variables w) → AllZip (IsBegun k) w.variables slots → is_sound_check (statement_tests w) c ≡ true → IsFresh (names_of_variables w) slots c
fresh-check k w slots (check.SetupHold c) distinct are sound =
    let a = are_sound_parts (statement_tests w) c.parts in
    let b = is_sound_reference (statement_tests w) c.reference in
    let rest = is_sound_time (tests w) c.setup_high && (is_sound_time (tests w) c.setup_low && (is_sound_time (tests w) c.hold_high && is_sound_time (tests w) c.hold_low)) in
    let d = variable_is is_timing_data w.variables c.reference.timing_data in
    let others = has_bit w c.reference.ref_signal && is_among edge_symbols c.reference.ref_transition in
    fresh-of k w.variables slots (check.SetupHold c) is_timing_data distinct are (first-holds d others (first-holds b rest (second-holds a (b && rest) sound))) (setup-begun c)
fresh-check k w slots (check.RecoveryRemoval c) distinct are sound =
    let a = are_sound_parts (statement_tests w) c.parts in
    let b = is_sound_reference (statement_tests w) c.reference in
    let rest = is_sound_time (tests w) c.recovery && (is_sound_time (tests w) c.removal && is_sound_boolean (tests w) c.active_low) in
    let d = variable_is is_timing_data w.variables c.reference.timing_data in
    let others = has_bit w c.reference.ref_signal && is_among edge_symbols c.reference.ref_transition in
    fresh-of k w.variables slots (check.RecoveryRemoval c) is_timing_data distinct are (first-holds d others (first-holds b rest (second-holds a (b && rest) sound))) (λ q s is begins. refl)
fresh-check k w slots (check.PeriodPulse c) distinct are sound =
    let a = are_sound_parts (statement_tests w) c.parts in
    let d = variable_is is_period_data w.variables c.period_data in
    let rest = is_sound_time (tests w) c.period && (is_sound_time (tests w) c.pulse_width_high && is_sound_time (tests w) c.pulse_width_low) in
    fresh-of k w.variables slots (check.PeriodPulse c) is_period_data distinct are (first-holds d rest (second-holds a (d && rest) sound)) (period-begun c)

fresh-checks : (k w : Scope) (slots : List Slot) (cs : List TimingCheck) → IsDistinct bytes_eq (names_of_variables w) → AllZip (IsBegun k) w.variables slots → list_all (is_sound_check (statement_tests w)) cs ≡ true → AreFresh (names_of_variables w) slots cs
fresh-checks k w slots [] distinct are sound = tt
fresh-checks k w slots (c ∷ cs) distinct are sound =
    let here = is_sound_check (statement_tests w) c in
    let rest = list_all (is_sound_check (statement_tests w)) cs in
    (fresh-check k w slots c distinct are (first-holds here rest sound), fresh-checks k w slots cs distinct are (second-holds here rest sound))

-- The variables of a process differ, and so do those that its checks keep.
pub first-keeps : (k w : Scope) (cs : List TimingCheck) (slots : List Slot) → IsDistinct bytes_eq (names_of_variables w) → IsDistinct bytes_eq (map kept_by cs) → list_all (is_sound_check (statement_tests w)) cs ≡ true → AreFirst k (names_of_variables w) w.variables cs slots → list_all (keeps (names_of_variables w) slots) cs ≡ true
first-keeps k w cs slots distinct kept sound first =
    keep-all (names_of_variables w) cs first.begun slots (fresh-checks k w first.begun cs distinct first.begin sound) kept first.suit
