-- The lists of the drivers of each signal, and the values that they give.
use Rattle.std.proofs.Common.{◌≡◌, ℕ, zero, suc, ◌+◌, ◌-◌, ◌<◌, ◌≤◌, Bool, cond, eqb, List, [], ◌∷◌, length, map, drop, get_or, set, Option, Some, None, inl, inr, refl, ap, subst, sym, ◌∙◌, add-zero, zero-add, arith}
use Rattle.std.proofs.Math.Seq.{drop-cons}
use Rattle.std.specs.List.{slice_get, enumerate_from, fold}
use Rattle.std.proofs.lemmas.Bool.{cases_Bool, cases_eq, eq-eqb, eqb-true, ne_eqb}
use Rattle.std.proofs.lemmas.List.{length-set, length-drop, get_or-set_same, get_or-set_other, get_or-drop, drop-drop}
use Rattle.vital_agenda.specs.Driver.{Driver, currents}
use Rattle.vital_logic.specs.Tables.{entry_at, resolution_table}
use Rattle.vital_logic.specs.declared.level.Level.{Level}
use Rattle.vital_logic.specs.declared.level.Level.TheVariants.{U, Z}
use Rattle.vital_signals.specs.Sources.{AreLinkedFrom, driver_from, first_from}
use Rattle.vital_signals.specs.Values.{driven, value_of, values, values_driving}

-- ---- links

driver_is : (low number : ℕ) (signals : List ℕ) → low < length signals
    → driver_from low number signals ≡ cond (eqb (get_or signals low 0) number) (Some low) (driver_from (suc low) number signals)
driver_is low number signals lt = ap (first_from low number) (drop-cons signals low 0 lt)

-- one more driver is linked, before the others
pub one_more_linked : (low signal : ℕ) (signals : List ℕ) (firsts nexts : List (Option ℕ)) → AreLinkedFrom (suc low) signals firsts nexts → low < length signals → signal ≡ get_or signals low 0
    → AreLinkedFrom low signals (set firsts signal (Some low)) (set nexts low (get_or firsts signal None))
one_more_linked low signal signals firsts nexts h lt is = record {
  one_each = length-set nexts low (get_or firsts signal None) ∙ h.one_each;
  there = λ driver le. subst (λ (n : ℕ). get_or signals driver 0 < n) (sym (length-set firsts signal (Some low))) (h.there driver le);
  first = λ number le.
      elim (cases_eq number signal) [
        | inl same ↦
            ap (λ (n : ℕ). get_or (set firsts signal (Some low)) n None) same ∙ get_or-set_same firsts signal (Some low) None there
            ∙ sym (driver_is low number signals lt ∙ ap (λ (b : Bool). cond b (Some low) (driver_from (suc low) number signals)) (eq-eqb (get_or signals low 0) number (sym is ∙ sym same)))
        | inr apart ↦
            get_or-set_other firsts signal number (Some low) None apart ∙ h.first number (subst (λ (n : ℕ). number < n) (length-set firsts signal (Some low)) le)
            ∙ sym (driver_is low number signals lt ∙ ap (λ (b : Bool). cond b (Some low) (driver_from (suc low) number signals)) (ne_eqb (get_or signals low 0) number (λ same. apart (sym same ∙ sym is))))
      ];
  next = λ driver le less.
      elim (cases_eq driver low) [
        | inl same ↦
            ap (λ (n : ℕ). get_or (set nexts low (get_or firsts signal None)) n None) same
            ∙ get_or-set_same nexts low (get_or firsts signal None) None (omega (arith, h.one_each)) ∙ h.first signal there
            ∙ ap (λ (n : ℕ). driver_from (suc low) n signals) is ∙ ap (λ (n : ℕ). driver_from (suc n) (get_or signals n 0) signals) (sym same)
        | inr apart ↦
            get_or-set_other nexts low driver (get_or firsts signal None) None apart
            ∙ h.next driver (omega arith) (subst (λ (n : ℕ). driver < n) (length-set nexts low (get_or firsts signal None)) less)
      ];
}
  where
    there : signal < length firsts
    there = subst (λ (n : ℕ). n < length firsts) (sym is) (h.there low lt)

-- ---- a walk along the drivers of a signal

none_from : (n number : ℕ) (signals : List ℕ) (levels : List Level) → first_from n number signals ≡ None → values_driving number signals levels ≡ []
none_from n number [] levels h = refl
none_from n number (s ∷ signals) [] h = refl
none_from n number (s ∷ signals) (v ∷ levels) h = elim (cases_Bool (eqb s number)) [
  | inl same ↦ let no : Some n ≡ None = rw same at h in cc
  | inr other ↦ rw other (none_from (suc n) number signals levels (rw other at h))
]

-- where the first driver of a signal stands among some drivers, and what those that follow it give
record StandsAt (n number driver : ℕ) (signals : List ℕ) (levels : List Level) (k : ℕ) : Type 0 where
  is : driver ≡ n + k
  there : k < length signals
  of_signal : get_or signals k 0 ≡ number
  rest : values_driving number signals levels ≡ get_or levels k U ∷ values_driving number (drop (suc k) signals) (drop (suc k) levels)

stands_at : (n number driver : ℕ) (signals : List ℕ) (levels : List Level) → length levels ≡ length signals → first_from n number signals ≡ Some driver
    → (k : ℕ) × StandsAt n number driver signals levels k
stands_at n number driver [] levels long h = absurd (let no : None ≡ Some driver = h in cc)
stands_at n number driver (s ∷ signals) [] long h = absurd (omega arith)
stands_at n number driver (s ∷ signals) (v ∷ levels) long h = elim (cases_Bool (eqb s number)) [
  | inl same ↦
      let here : Some n ≡ Some driver = rw same at h in
      let at : n ≡ driver = cc in
      (0, record { is = omega arith; there = omega arith; of_signal = eqb-true s number same; rest = rw same refl })
  | inr other ↦
      let later = stands_at (suc n) number driver signals levels (omega arith) (rw other at h) in
      (suc later.0, record { is = omega (arith, later.1.is); there = omega (arith, later.1.there); of_signal = later.1.of_signal; rest = rw other later.1.rest })
]

-- the first value from a driver of a signal on is its own
pub own_value : (number driver : ℕ) (signals : List ℕ) (levels : List Level) → length levels ≡ length signals → driver < length signals → get_or signals driver 0 ≡ number
    → values_driving number (drop driver signals) (drop driver levels) ≡ get_or levels driver U ∷ values_driving number (drop (suc driver) signals) (drop (suc driver) levels)
own_value number driver signals levels long lt is =
    ap (λ (ss : List ℕ). values_driving number ss (drop driver levels)) (drop-cons signals driver 0 lt)
    ∙ ap (values_driving number (get_or signals driver 0 ∷ drop (suc driver) signals)) (drop-cons levels driver U (omega arith))
    ∙ rw (eq-eqb (get_or signals driver 0) number is) refl

-- the values of the drivers of a signal, from one that may be missing on
abbrev pub values_at : ℕ → Option ℕ → List ℕ → List Level → List Level
values_at number None signals levels = []
values_at number (Some driver) signals levels = values_driving number (drop driver signals) (drop driver levels)

-- a driver that may be missing is there, is one of the signal of a number, and comes from low on
abbrev pub IsDriverOf : ℕ → ℕ → Option ℕ → List ℕ → Type 0
IsDriverOf low number None signals = Unit {0}
IsDriverOf low number (Some driver) signals = (low ≤ driver) × (driver < length signals) × (get_or signals driver 0 ≡ number)

pub values_from : (low number : ℕ) (found : Option ℕ) (signals : List ℕ) (levels : List Level) → length levels ≡ length signals → driver_from low number signals ≡ found
    → IsDriverOf low number found signals × (values_driving number (drop low signals) (drop low levels) ≡ values_at number found signals levels)
values_from low number None signals levels long h = (tt, none_from low number (drop low signals) (drop low levels) h)
values_from low number (Some driver) signals levels long h =
    let here = stands_at low number driver (drop low signals) (drop low levels) (length-drop low levels ∙ ap (λ (n : ℕ). n - low) long ∙ sym (length-drop low signals)) h in
    let k = here.0 in
    let there : driver < length signals = omega (arith, here.1.is, here.1.there, length-drop low signals) in
    let is : get_or signals driver 0 ≡ number = ap (λ (n : ℕ). get_or signals n 0) here.1.is ∙ sym (get_or-drop low signals k 0) ∙ here.1.of_signal in
    let next : low + suc k ≡ suc driver = omega (arith, here.1.is) in (
      (omega (arith, here.1.is), there, is),
      here.1.rest
          ∙ ap (λ (v : Level). v ∷ values_driving number (drop (suc k) (drop low signals)) (drop (suc k) (drop low levels))) (get_or-drop low levels k U ∙ ap (λ (n : ℕ). get_or levels n U) (sym here.1.is))
          ∙ ap (λ (ss : List ℕ). get_or levels driver U ∷ values_driving number ss (drop (suc k) (drop low levels))) (drop-drop (suc k) low signals ∙ ap (λ (n : ℕ). drop n signals) next)
          ∙ ap (λ (vs : List Level). get_or levels driver U ∷ values_driving number (drop (suc driver) signals) vs) (drop-drop (suc k) low levels ∙ ap (λ (n : ℕ). drop n levels) next)
          ∙ sym (own_value number driver signals levels long there is),
    )

-- a step of the walk
pub values_step : (number driver : ℕ) (signals : List ℕ) (levels : List Level) → length levels ≡ length signals → driver < length signals → get_or signals driver 0 ≡ number
    → values_driving number (drop driver signals) (drop driver levels) ≡ get_or levels driver U ∷ values_at number (driver_from (suc driver) number signals) signals levels
values_step number driver signals levels long lt is =
    own_value number driver signals levels long lt is
    ∙ ap (λ (vs : List Level). get_or levels driver U ∷ vs) (values_from (suc driver) number (driver_from (suc driver) number signals) signals levels long refl).1

-- how many drivers there are from one on, which may be missing
abbrev pub left_from : Option ℕ → ℕ → ℕ
left_from None count = 0
left_from (Some driver) count = count - driver

-- ---- elements

pub got : {A : Type 0} (xs : List A) (i : ℕ) (x d : A) → slice_get xs i ≡ Some x → get_or xs i d ≡ x
got [] i x d h = absurd (let no : None ≡ Some x = h in cc)
got (y ∷ xs) zero x d h = let here : Some y ≡ Some x = h in cc
got (y ∷ xs) (suc i) x d h = got xs i x d h

pub get_there : {A : Type 0} (xs : List A) (i : ℕ) (d : A) → i < length xs → slice_get xs i ≡ Some (get_or xs i d)
get_there [] i d lt = absurd (omega arith)
get_there (x ∷ xs) zero d lt = refl
get_there (x ∷ xs) (suc i) d lt = get_there xs i d (omega arith)

-- ---- resolution along the drivers of a signal

later_driver : (low number : ℕ) (found : Option ℕ) (signals : List ℕ) → IsDriverOf low number found signals → IsDriverOf 0 number found signals
later_driver low number None signals h = tt
later_driver low number (Some driver) signals h = (omega arith, h.1, h.2)

fewer_left : (number driver : ℕ) (next : Option ℕ) (signals : List ℕ) → driver < length signals → IsDriverOf (suc driver) number next signals
    → left_from next (length signals) < length signals - driver
fewer_left number driver None signals lt h = omega arith
fewer_left number driver (Some next) signals lt h = omega (arith, h.0, h.1)

next_found : (driver : ℕ) (next : Option ℕ) (signals : List ℕ) → next ≡ driver_from (driver + 1) (get_or signals driver 0) signals → driver_from (suc driver) (get_or signals driver 0) signals ≡ next
next_found driver next signals h = let after : suc driver ≡ driver + 1 = omega arith in ap (λ (n : ℕ). driver_from n (get_or signals driver 0) signals) after ∙ sym h

-- a turn of the loop that resolves
pub record Turn (number : ℕ) (at next : Option ℕ) (signals : List ℕ) (levels : List Level) (value resolved : Level) : Type 0 where
  pub here : IsDriverOf 0 number next signals
  pub left : fold (entry_at resolution_table) resolved (values_at number next signals levels) ≡ fold (entry_at resolution_table) value (values_at number at signals levels)
  pub fewer : left_from next (length signals) < left_from at (length signals)

turn_at : (number driver : ℕ) (next : Option ℕ) (signals : List ℕ) (levels : List Level) (value current resolved : Level) → length levels ≡ length signals → driver < length signals
    → get_or signals driver 0 ≡ number → next ≡ driver_from (driver + 1) (get_or signals driver 0) signals → slice_get levels driver ≡ Some current → resolved ≡ entry_at resolution_table value current
    → Turn number (Some driver) next signals levels value resolved
turn_at number driver next signals levels value current resolved long lt is found read result =
    let next_is : driver_from (suc driver) number signals ≡ next =
    ap (λ (n : ℕ). driver_from (suc driver) n signals) (sym is) ∙ next_found driver next signals found in
    let later = values_from (suc driver) number next signals levels long next_is in
    record {
      here = later_driver (suc driver) number next signals later.0;
      left =
          ap (λ (v : Level). fold (entry_at resolution_table) v (values_at number next signals levels))
          (result ∙ ap (entry_at resolution_table value) (sym (got levels driver current U read)))
          ∙ ap (λ (o : Option ℕ). fold (entry_at resolution_table) value (get_or levels driver U ∷ values_at number o signals levels)) (sym next_is)
          ∙ sym (ap (fold (entry_at resolution_table) value) (values_step number driver signals levels long lt is));
      fewer = fewer_left number driver next signals lt later.0;
    }

pub turn : (number driver : ℕ) (at next : Option ℕ) (signals : List ℕ) (levels : List Level) (value current resolved : Level) → length levels ≡ length signals → at ≡ Some driver
    → IsDriverOf 0 number at signals → next ≡ driver_from (driver + 1) (get_or signals driver 0) signals → slice_get levels driver ≡ Some current → resolved ≡ entry_at resolution_table value current
    → Turn number at next signals levels value resolved
turn number driver at next signals levels value current resolved long is here found read result =
    let there : IsDriverOf 0 number (Some driver) signals = subst (λ (o : Option ℕ). IsDriverOf 0 number o signals) is here in
    subst (λ (o : Option ℕ). Turn number o next signals levels value resolved) (sym is)
    (turn_at number driver next signals levels value current resolved long there.1 there.2 found read result)

-- ---- the value of a signal

-- a signal of which this is the only driver
pub one_drives : (driver : ℕ) (signals : List ℕ) (levels : List Level) (current : Level) → length levels ≡ length signals → driver < length signals
    → None ≡ driver_from (driver + 1) (get_or signals driver 0) signals → slice_get levels driver ≡ Some current
    → (default : Level) → driven default (values_driving (get_or signals driver 0) (drop driver signals) (drop driver levels)) ≡ current
one_drives driver signals levels current long lt last read default =
    ap (driven default) (values_step (get_or signals driver 0) driver signals levels long lt refl)
    ∙ ap (λ (o : Option ℕ). driven default (get_or levels driver U ∷ values_at (get_or signals driver 0) o signals levels)) (next_found driver None signals last)
    ∙ got levels driver current U read

-- a signal that has another driver after this one
pub more_drive : (driver next : ℕ) (signals : List ℕ) (levels : List Level) (value : Level) → length levels ≡ length signals → driver < length signals
    → Some next ≡ driver_from (driver + 1) (get_or signals driver 0) signals
    → value ≡ fold (entry_at resolution_table) Z (values_driving (get_or signals driver 0) (drop driver signals) (drop driver levels))
    → (default : Level) → driven default (values_driving (get_or signals driver 0) (drop driver signals) (drop driver levels)) ≡ value
more_drive driver next signals levels value long lt found result default =
    let number = get_or signals driver 0 in
    let next_is = next_found driver (Some next) signals found in
    let later = values_from (suc driver) number (Some next) signals levels long next_is in
    let two : values_driving number (drop driver signals) (drop driver levels)
    ≡ get_or levels driver U ∷ get_or levels next U ∷ values_driving number (drop (suc next) signals) (drop (suc next) levels) =
    values_step number driver signals levels long lt refl
    ∙ ap (λ (o : Option ℕ). get_or levels driver U ∷ values_at number o signals levels) next_is
    ∙ ap (λ (vs : List Level). get_or levels driver U ∷ vs) (own_value number next signals levels long later.0.1 later.0.2) in
    ap (driven default) two ∙ sym (ap (fold (entry_at resolution_table) Z) two) ∙ sym result

value_from : (n i : ℕ) (defaults : List Level) (signals : List ℕ) (drivers : List Driver) (default : Level) → slice_get defaults i ≡ Some default
    → slice_get (map (value_of signals drivers) (enumerate_from n defaults)) i ≡ Some (driven default (values_driving (n + i) signals (currents drivers)))
value_from n i [] signals drivers default h = absurd (let no : None ≡ Some default = h in cc)
value_from n zero (d ∷ defaults) signals drivers default h =
    let here : Some d ≡ Some default = h in
    let same : d ≡ default = cc in
    ap (λ (v : Level). Some (driven v (values_driving n signals (currents drivers)))) same
    ∙ ap (λ (k : ℕ). Some (driven default (values_driving k signals (currents drivers)))) (sym (add-zero n))
value_from n (suc i) (d ∷ defaults) signals drivers default h =
    let next : n + 1 + i ≡ n + suc i = omega arith in
    value_from (n + 1) i defaults signals drivers default h ∙ ap (λ (k : ℕ). Some (driven default (values_driving k signals (currents drivers)))) next

-- the value of a signal is what its drivers give
pub value_is : (number : ℕ) (defaults : List Level) (signals : List ℕ) (drivers : List Driver) (value : Level) → number < length defaults
    → ((default : Level) → slice_get defaults number ≡ Some default → driven default (values_driving number signals (currents drivers)) ≡ value)
    → slice_get (values defaults signals drivers) number ≡ Some value
value_is number defaults signals drivers value lt h =
    let default = get_or defaults number U in
    let there = get_there defaults number U lt in
    value_from 0 number defaults signals drivers default there ∙ ap (λ (k : ℕ). Some (driven default (values_driving k signals (currents drivers)))) (zero-add number) ∙ ap Some (h default there)
