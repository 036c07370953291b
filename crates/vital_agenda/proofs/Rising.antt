-- Transactions at strictly rising times.
use Rattle.std.proofs.Common.{◌≡◌, ℕ, ◌+◌, ◌-◌, ◌<◌, ◌≤◌, Bool, true, false, not, cond, ◌&&◌, eqb, List, [], ◌∷◌, ◌++◌, filter, Option, Some, None, inl, inr, refl, ap, sym, ◌∙◌, arith}
use Rattle.std.specs.Prelude.{find, is_some}
use Rattle.std.specs.Option.{option_map_or}
use Rattle.std.proofs.lemmas.Bool.{le-ltb, lt-ltb, cases_Bool, cases_lt, cases_eq, eq-eqb, eqb-true, ne_eqb, and_parts}
use Rattle.vital_base.specs.declared.kind.Kind.{Kind}
use Rattle.vital_base.specs.declared.kind.Kind.TheVariants.{Transport, Inertial}
use Rattle.vital_logic.specs.declared.level.Level.{Level}
use Rattle.vital_logic.specs.Levels.{byte_of}
use Rattle.vital_agenda.specs.declared.stay.Stay.{Stay}
use Rattle.vital_agenda.specs.declared.stay.Stay.TheVariants.{After, Same}
use Rattle.vital_agenda.specs.declared.transaction.Transaction.{Transaction}
use Rattle.vital_agenda.specs.Driver.{Driver, RisesFrom, is_before, is_at, is_kept, kept, same_level, with_new, pending_after, advance}
use Rattle.vital_agenda.specs.Agendas.{is_due}
use Rattle.vital_agenda.specs.Queues.{all_stay, last_staying}

-- rising from a time is rising from an earlier one
pub rises_lower : (low high : ℕ) (xs : List Transaction) → low ≤ high → RisesFrom high xs → RisesFrom low xs
rises_lower low high [] le h = tt
rises_lower low high (x ∷ xs) le h = (omega arith, h.1)

-- what a transport assignment leaves rises
pub with_new_rises : (low time : ℕ) (value : Level) (xs : List Transaction) → RisesFrom low xs → low ≤ time → RisesFrom low (with_new xs time value)
with_new_rises low time value [] h le = (le, tt)
with_new_rises low time value (x ∷ xs) h le =
    elim (cases_lt x.time time) [
      | inl lt ↦ rw (lt-ltb x.time time lt) (h.0, with_new_rises (x.time + 1) time value xs h.1 (omega arith))
      | inr ge ↦ rw (le-ltb x.time time ge) (with_new_rises low time value xs (rises_lower low (x.time + 1) xs (omega (arith, h.0)) h.1) le)
    ]

-- what a filter keeps rises still
pub filter_rises : (p : Transaction → Bool) (low : ℕ) (xs : List Transaction) → RisesFrom low xs → RisesFrom low (filter p xs)
filter_rises p low [] h = tt
filter_rises p low (x ∷ xs) h =
    elim (p x) as (λ b. RisesFrom low (cond b (x ∷ filter p xs) (filter p xs))) [
      | true ↦ (h.0, filter_rises p (x.time + 1) xs h.1)
      | false ↦ filter_rises p low xs (rises_lower low (x.time + 1) xs (omega (arith, h.0)) h.1)
    ]

-- the last ones rise still
pub last_staying_rises : (stay : Stay) (low : ℕ) (xs : List Transaction) → RisesFrom low xs → RisesFrom low (last_staying stay xs)
last_staying_rises stay low [] h = tt
last_staying_rises stay low (x ∷ xs) h =
    elim (all_stay stay (x ∷ xs)) as (λ b. RisesFrom low (cond b (x ∷ xs) (last_staying stay xs))) [
      | true ↦ h
      | false ↦ last_staying_rises stay low xs (rises_lower low (x.time + 1) xs (omega (arith, h.0)) h.1)
    ]

-- none is at a time before them all
pub record NoneAt (time : ℕ) (xs : List Transaction) : Type 0 where
  pub none : find (is_at time) xs ≡ None
  pub all : filter (λ x. not (is_at time x)) xs ≡ xs

pub none_at : (time low : ℕ) (xs : List Transaction) → time < low → RisesFrom low xs → NoneAt time xs
none_at time low [] lt h = record { none = refl; all = refl }
none_at time low (x ∷ xs) lt h =
    let later = none_at time (x.time + 1) xs (omega (arith, h.0)) h.1 in
    let other : eqb x.time time ≡ false = ne_eqb x.time time (omega (arith, h.0)) in
    record {
      none = rw other later.none;
      all = rw other (ap (λ (ys : List Transaction). x ∷ ys) later.all);
    }

-- ---- the transactions after a time

all_after : (time low : ℕ) (xs : List Transaction) → time < low → RisesFrom low xs → all_stay (After time) xs ≡ true
all_after time low [] lt h = refl
all_after time low (x ∷ xs) lt h = rw (lt-ltb time x.time (omega (arith, h.0))) (all_after time (x.time + 1) xs (omega (arith, h.0)) h.1)

-- where all stay, the last ones that stay are all
pub all_are_last : (stay : Stay) (xs : List Transaction) → all_stay stay xs ≡ true → last_staying stay xs ≡ xs
all_are_last stay [] h = refl
all_are_last stay (x ∷ xs) h = rw h refl

-- where none comes before a time, those after it are all but the one at it
pub after_are_others : (time : ℕ) (xs : List Transaction) → RisesFrom time xs → last_staying (After time) xs ≡ filter (λ x. not (is_at time x)) xs
after_are_others time [] h = refl
after_are_others time (x ∷ xs) h = elim (cases_eq x.time time) [
  | inl same ↦
      let later = none_at time (x.time + 1) xs (omega arith) h.1 in
      rw (le-ltb time x.time (omega arith), eq-eqb x.time time same) (all_are_last (After time) xs (all_after time (x.time + 1) xs (omega arith) h.1) ∙ sym later.all)
  | inr other ↦
      let later = none_at time (x.time + 1) xs (omega (arith, h.0)) h.1 in
      rw (lt-ltb time x.time (omega (arith, h.0)), all_after time (x.time + 1) xs (omega (arith, h.0)) h.1, ne_eqb x.time time other)
      (ap (λ (ys : List Transaction). x ∷ ys) (sym later.all))
]

-- ---- the transactions of one value

abbrev SameAs : Level → Stay
SameAs value = Same value

pub same_itself : (a : Level) → same_level a a ≡ true
same_itself a = eq-eqb (byte_of a) (byte_of a) refl

-- where b and x have one value, a has that of b where it has that of x
same_through : (a b x : Level) → same_level b x ≡ true → same_level a b ≡ same_level a x
same_through a b x h = ap (λ (n : ℕ). eqb (byte_of a) n) (eqb-true (byte_of b) (byte_of x) h)

both_tests : (p q r : Bool) → (r ≡ true → p ≡ q) → (p && r) ≡ (q && r)
both_tests p q true h = ap (λ (b : Bool). b && true) (h refl)
both_tests true true false h = refl
both_tests true false false h = refl
both_tests false true false h = refl
both_tests false false false h = refl

-- the first of some transactions is kept where all have the value of the last one
kept_is_same : (limit : ℕ) (xs : List Transaction) (x : Transaction) → RisesFrom limit xs → is_kept limit (xs ++ x ∷ []) ≡ all_stay (SameAs x.value) (xs ++ x ∷ [])
kept_is_same limit [] x h = rw (same_itself x.value) refl
kept_is_same limit (a ∷ []) x h = rw (le-ltb a.time limit h.0, same_itself x.value) refl
kept_is_same limit (a ∷ b ∷ xs) x h =
    let later : RisesFrom limit (b ∷ xs) = rises_lower limit (a.time + 1) (b ∷ xs) (omega (arith, h.0)) h.1 in
    let rest = kept_is_same limit (b ∷ xs) x later in
    rw (le-ltb a.time limit h.0)
    (ap (λ (t : Bool). same_level a.value b.value && t) rest
    ∙ both_tests (same_level a.value b.value) (same_level a.value x.value) (all_stay (SameAs x.value) (b ∷ xs ++ x ∷ []))
    (λ all. same_through a.value b.value x.value (and_parts (same_level b.value x.value) (all_stay (SameAs x.value) (xs ++ x ∷ [])) all).0))

-- where none comes before the limit, an inertial assignment keeps the last ones with the value of the new one
pub kept_are_same : (limit : ℕ) (xs : List Transaction) (x : Transaction) → RisesFrom limit xs → last_staying (SameAs x.value) (xs ++ x ∷ []) ≡ kept limit (xs ++ x ∷ [])
kept_are_same limit [] x h = rw (same_itself x.value) refl
kept_are_same limit (a ∷ xs) x h =
    let later : RisesFrom limit xs = rises_lower limit (a.time + 1) xs (omega (arith, h.0)) h.1 in
    let rest = kept_are_same limit xs x later in
    let test = kept_is_same limit (a ∷ xs) x h in
    elim (cases_Bool (all_stay (SameAs x.value) (a ∷ xs ++ x ∷ []))) [
      | inl all ↦
          let all_later = (and_parts (same_level a.value x.value) (all_stay (SameAs x.value) (xs ++ x ∷ [])) all).1 in
          rw (test, all) (ap (λ (ys : List Transaction). a ∷ ys) (sym (all_are_last (SameAs x.value) (xs ++ x ∷ []) all_later) ∙ rest))
      | inr some ↦ rw (test, some) rest
    ]

same_are_kept : (now time : ℕ) (value : Level) (xs : List Transaction) → RisesFrom now xs → last_staying (SameAs value) (with_new xs time value) ≡ kept now (with_new xs time value)
same_are_kept now time value xs h = kept_are_same now (filter (is_before time) xs) (record { time = time; value = value }) (filter_rises (is_before time) now xs h)

-- ---- what an assignment leaves

-- of some transactions, of which the last one is the new one
abbrev pub left_by : Kind → Level → List Transaction → List Transaction
left_by Transport value pending = pending
left_by Inertial value pending = last_staying (Same value) pending

pub left_by_rises : (kind : Kind) (value : Level) (low : ℕ) (xs : List Transaction) → RisesFrom low xs → RisesFrom low (left_by kind value xs)
left_by_rises Transport value low xs h = h
left_by_rises Inertial value low xs h = last_staying_rises (Same value) low xs h

pub left_is : (kind : Kind) (now : ℕ) (value : Level) (delay : ℕ) (xs : List Transaction) → RisesFrom now xs → left_by kind value (with_new xs (now + delay) value) ≡ pending_after kind now value delay xs
left_is Transport now value delay xs h = refl
left_is Inertial now value delay xs h =
    let limit : now ≡ now + delay - delay = omega arith in
    same_are_kept now (now + delay) value xs h ∙ ap (λ (n : ℕ). kept n (with_new xs (now + delay) value)) limit

-- ---- a driver in a cycle

find_in_filter : (time : ℕ) (xs : List Transaction) → find (is_at time) (filter (λ x. not (is_at time x)) xs) ≡ None
find_in_filter time [] = refl
find_in_filter time (x ∷ xs) = elim (cases_eq x.time time) [
  | inl same ↦ rw (eq-eqb x.time time same) (find_in_filter time xs)
  | inr other ↦ rw (ne_eqb x.time time other, ne_eqb x.time time other) (find_in_filter time xs)
]

-- where none is at a time, a cycle at that time changes nothing
pub none_found : (time : ℕ) (xs : List Transaction) → find (is_at time) xs ≡ None → filter (λ x. not (is_at time x)) xs ≡ xs
none_found time [] h = refl
none_found time (x ∷ xs) h = elim (cases_eq x.time time) [
  | inl same ↦ let no : Some x ≡ None = rw (eq-eqb x.time time same) at h in cc
  | inr other ↦ rw (ne_eqb x.time time other) (ap (λ (ys : List Transaction). x ∷ ys) (none_found time xs (rw (ne_eqb x.time time other) at h)))
]

pub idle_in_cycle : (time : ℕ) (d : Driver) → is_due time d ≡ false → advance time d ≡ d
idle_in_cycle time d h =
    let none : find (is_at time) d.pending ≡ None = none_is (find (is_at time) d.pending) h in
    ap (λ (o : Option Transaction). let r : Driver = record { current = option_map_or (λ x. x.value) o d.current; pending = filter (λ x. not (is_at time x)) d.pending } in r) none
    ∙ ap (λ (ys : List Transaction). let r : Driver = record { current = d.current; pending = ys } in r) (none_found time d.pending none)
  where
    none_is : (o : Option Transaction) → is_some o ≡ false → o ≡ None
    none_is None h = refl
    none_is (Some x) h = cc

-- after a cycle a driver is not due again
pub not_due_again : (time : ℕ) (d : Driver) → is_due time (advance time d) ≡ false
not_due_again time d = ap is_some (find_in_filter time d.pending)

-- what the transaction at a time makes of a driver
pub due_advances : (time : ℕ) (value : Level) (d : Driver) → RisesFrom time d.pending → find (is_at time) d.pending ≡ Some (record { time = time; value = value })
    → record { current = value; pending = last_staying (After time) d.pending } ≡ advance time d
due_advances time value d h found =
    ap (λ (ys : List Transaction). let r : Driver = record { current = value; pending = ys } in r) (after_are_others time d.pending h)
    ∙ sym (ap (λ (o : Option Transaction). let r : Driver = record { current = option_map_or (λ x. x.value) o d.current; pending = filter (λ x. not (is_at time x)) d.pending } in r) found)
