-- Transactions at strictly rising times.
use Rattle.std.proofs.Common.{◌≡◌, ℕ, ◌+◌, ◌<◌, ◌≤◌, false, not, eqb, List, [], ◌∷◌, filter, map, min, Some, None, refl, ap, ◌∙◌, inl, inr, arith}
use Rattle.std.specs.Prelude.{find}
use Rattle.std.proofs.lemmas.Bool.{le-ltb, lt-ltb, cases_lt, ne_eqb}
use Rattle.vital_agenda.specs.declared.transaction.Transaction.{Transaction}
use Rattle.vital_logic.specs.declared.level.Level.{Level}
use Rattle.vital_agenda.specs.Driver.{RisesFrom, is_at, with_new, sooner, least}

-- rising from a time is rising from an earlier one
pub rises_lower : (low high : ℕ) (xs : List Transaction) → low ≤ high → RisesFrom high xs → RisesFrom low xs
rises_lower low high [] le h = tt
rises_lower low high (x ∷ xs) le h = (omega arith, h.1)

-- what a transport assignment leaves rises
pub with_new_rises : (low time : ℕ) (value : Level) (xs : List Transaction) → RisesFrom low xs → low ≤ time → RisesFrom low (with_new xs time value)
with_new_rises low time value [] h le = (le, tt)
with_new_rises low time value (x ∷ xs) h le =
    elim (cases_lt x.time time) [
      | inl lt ↦ rw (lt-ltb x.time time lt) (h.0, with_new_rises (x.time + 1) time value xs h.1 (omega arith))
      | inr ge ↦ rw (le-ltb x.time time ge) (with_new_rises low time value xs (rises_lower low (x.time + 1) xs (omega (arith, h.0)) h.1) le)
    ]

-- the first one has the least time
pub first_is_least : (low : ℕ) (x : Transaction) (xs : List Transaction) → RisesFrom low (x ∷ xs) → least (map (λ y. y.time) (x ∷ xs)) ≡ Some x.time
first_is_least low x [] h = refl
first_is_least low x (y ∷ ys) h =
    let le : x.time ≤ y.time = omega (arith, h.1.0) in
    ap (sooner (Some x.time)) (first_is_least (x.time + 1) y ys h.1) ∙ ap (λ (n : ℕ). Some n) (min_left x.time y.time le)
  where
    min_left : (a b : ℕ) → a ≤ b → min a b ≡ a
    min_left a b le = omega arith

-- none is at a time before them all
pub record NoneAt (time : ℕ) (xs : List Transaction) : Type 0 where
  pub none : find (is_at time) xs ≡ None
  pub all : filter (λ x. not (is_at time x)) xs ≡ xs

pub none_at : (time low : ℕ) (xs : List Transaction) → time < low → RisesFrom low xs → NoneAt time xs
none_at time low [] lt h = record { none = refl; all = refl }
none_at time low (x ∷ xs) lt h =
    let later = none_at time (x.time + 1) xs (omega (arith, h.0)) h.1 in
    let other : eqb x.time time ≡ false = ne_eqb x.time time (omega (arith, h.0)) in
    record {
      none = rw other later.none;
      all = rw other (ap (λ (ys : List Transaction). x ∷ ys) later.all);
    }
