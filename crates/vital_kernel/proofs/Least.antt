-- The least of the times at which drivers have pending transactions.
use Rattle.std.proofs.Common.{◌≡◌, ℕ, ◌+◌, ◌≤◌, min, not, List, [], ◌∷◌, ◌++◌, filter, map, ◌⊎◌, inl, inr, Option, Some, None, refl, sym, ap, subst, ◌∙◌, arith}
use Rattle.std.specs.List.{flat_map}
use Rattle.std.proofs.lemmas.Bool.{cases_eq, cases_lt, eq-eqb, ne_eqb}
use Rattle.vital_agenda.specs.declared.transaction.Transaction.{Transaction}
use Rattle.vital_agenda.specs.Driver.{Driver, RisesFrom, AllRise, is_at, sooner, least, pending_times, next_time, advance}
use Rattle.vital_kernel.proofs.Rising.{rises_lower, first_is_least, none_at}

sooner_assoc : (x : ℕ) (a b : Option ℕ) → sooner (Some x) (sooner a b) ≡ sooner (sooner (Some x) a) b
sooner_assoc x None None = refl
sooner_assoc x None (Some b) = refl
sooner_assoc x (Some a) None = refl
sooner_assoc x (Some a) (Some b) = ap (λ (n : ℕ). Some n) (min_assoc x a b)
  where
    min_assoc : (x a b : ℕ) → min x (min a b) ≡ min (min x a) b
    min_assoc x a b = omega arith

pub least-append : (xs ys : List ℕ) → least (xs ++ ys) ≡ sooner (least xs) (least ys)
least-append [] ys = refl
least-append (x ∷ xs) ys = ap (sooner (Some x)) (least-append xs ys) ∙ sooner_assoc x (least xs) (least ys)

-- a time comes before none of those that may be missing
abbrev pub NotAfter : ℕ → Option ℕ → Type 0
NotAfter time None = Unit {0}
NotAfter time (Some other) = time ≤ other

pub not_after_sooner : (time : ℕ) (a b : Option ℕ) → NotAfter time (sooner a b) → NotAfter time a × NotAfter time b
not_after_sooner time None b h = (tt, h)
not_after_sooner time (Some a) None h = (h, tt)
not_after_sooner time (Some a) (Some b) h = (omega arith, omega arith)

rises_at : (low time : ℕ) (xs : List Transaction) → RisesFrom low xs → NotAfter time (least (map (λ x. x.time) xs)) → RisesFrom time xs
rises_at low time [] h le = tt
rises_at low time (x ∷ xs) h le =
    let first = first_is_least low x xs h in
    let later : NotAfter time (Some x.time) = subst (NotAfter time) first le in
    (later, h.1)

all_rise_at : (low time : ℕ) (ds : List Driver) → AllRise low ds → NotAfter time (next_time ds) → AllRise time ds
all_rise_at low time [] h le = tt
all_rise_at low time (d ∷ ds) h le =
    let both = not_after_sooner time (least (pending_times d)) (next_time ds) (subst (NotAfter time) (least-append (pending_times d) (flat_map pending_times ds)) le) in
    (rises_at low time d.pending h.0 both.0, all_rise_at low time ds h.1 both.1)

-- the next time comes before no transaction
pub all_rise_next : (low time : ℕ) (ds : List Driver) → AllRise low ds → next_time ds ≡ Some time → AllRise time ds
all_rise_next low time ds h e = all_rise_at low time ds h (subst (NotAfter time) (sym e) (omega arith))

pub all_rise_lower : (low high : ℕ) (ds : List Driver) → low ≤ high → AllRise high ds → AllRise low ds
all_rise_lower low high [] le h = tt
all_rise_lower low high (d ∷ ds) le h = (rises_lower low high d.pending le h.0, all_rise_lower low high ds le h.1)

advance_rises : (time : ℕ) (xs : List Transaction) → RisesFrom time xs → RisesFrom (time + 1) (filter (λ x. not (is_at time x)) xs)
advance_rises time [] h = tt
advance_rises time (x ∷ xs) h =
    elim (cases_eq x.time time) [
      | inl same ↦
          let later = none_at time (x.time + 1) xs (omega arith) h.1 in
          rw (eq-eqb x.time time same, later.all) (rises_lower (time + 1) (x.time + 1) xs (omega arith) h.1)
      | inr other ↦
          let later = none_at time (x.time + 1) xs (omega (arith, h.0)) h.1 in
          rw (ne_eqb x.time time other, later.all) (omega (arith, h.0), h.1)
    ]

-- after a cycle every transaction comes later
pub all_rise_after : (time : ℕ) (ds : List Driver) → AllRise time ds → AllRise (time + 1) (map (advance time) ds)
all_rise_after time [] h = tt
all_rise_after time (d ∷ ds) h = (advance_rises time d.pending h.0, all_rise_after time ds h.1)

either_is : (time : ℕ) (a b : Option ℕ) → sooner a b ≡ Some time → (a ≡ Some time) ⊎ (b ≡ Some time)
either_is time None b e = inr e
either_is time (Some a) None e = inl e
either_is time (Some a) (Some b) e =
    let least_is : min a b ≡ time = cc in
    elim (cases_lt a b) [
      | inl lt ↦ inl (ap (λ (n : ℕ). Some n) (omega (arith, least_is, lt)))
      | inr ge ↦ inr (ap (λ (n : ℕ). Some n) (omega (arith, least_is, ge)))
    ]

pub rises_above : (low time : ℕ) (xs : List Transaction) → RisesFrom low xs → least (map (λ x. x.time) xs) ≡ Some time → low ≤ time
rises_above low time [] h e = absurd cc
rises_above low time (x ∷ xs) h e =
    let first : Some x.time ≡ Some time = sym (first_is_least low x xs h) ∙ e in
    let same : x.time ≡ time = cc in
    omega (arith, same, h.0)

-- the next time is not below the one that all transactions rise from
pub next_is_above : (low time : ℕ) (ds : List Driver) → AllRise low ds → next_time ds ≡ Some time → low ≤ time
next_is_above low time [] h e = absurd cc
next_is_above low time (d ∷ ds) h e =
    elim (either_is time (least (pending_times d)) (next_time ds) (sym (least-append (pending_times d) (flat_map pending_times ds)) ∙ e)) [
      | inl here ↦ rises_above low time d.pending h.0 here
      | inr there ↦ next_is_above low time ds h.1 there
    ]
