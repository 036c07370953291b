-- Numbers in order, each once.
use Rattle.std.proofs.Common.{◌≡◌, ℕ, zero, suc, ◌+◌, ◌<◌, ◌≤◌, Bool, true, false, not, ◌||◌, eqb, ltb, List, [], ◌∷◌, length, get_or, None, Some, inl, inr, refl, ap, subst, sym, ◌∙◌, arith}
use Rattle.std.specs.List.{dedup, dedup_from, list_any, slice_get}
use Rattle.std.specs.List.Sorted.{IsStrictlyIncreasing}
use Rattle.std.proofs.lemmas.Bool.{cases_eq, eq-eqb, lt-ltb, ltb-true, ne_eqb, or_from, or_parts}
use Rattle.vital_signals.specs.Lists.{AreRising}

twice : (b c : Bool) → (b || c) ≡ (b || (b || c))
twice true c = refl
twice false c = refl

any_from : (test : ℕ → Bool) (k : ℕ) (xs : List ℕ) → list_any test (dedup_from eqb k xs) ≡ (test k || list_any test xs)
any_from test k [] = refl
any_from test k (x ∷ xs) = elim (cases_eq x k) [
  | inl same ↦ rw (eq-eqb x k same) (any_from test k xs ∙ twice (test k) (list_any test xs) ∙ ap (λ (n : ℕ). test k || (test n || list_any test xs)) (sym same))
  | inr other ↦ rw (ne_eqb x k other) (ap (λ (b : Bool). test k || b) (any_from test x xs))
]

-- a number is listed once where it was listed before
pub list_any-dedup : (test : ℕ → Bool) (xs : List ℕ) → list_any test (dedup eqb xs) ≡ list_any test xs
list_any-dedup test [] = refl
list_any-dedup test (x ∷ xs) = any_from test x xs

-- ---- numbers that rise

rising_from : (low high : ℕ) (xs : List ℕ) → IsStrictlyIncreasing xs → ((first : ℕ) → slice_get xs 0 ≡ Some first → low ≤ first) → list_any (λ n. not (ltb n high)) xs ≡ false → AreRising low high xs
rising_from low high [] up first below = tt
rising_from low high (x ∷ xs) up first below =
    let parts = or_parts (not (ltb x high)) (list_any (λ n. not (ltb n high)) xs) below in
    (first x refl, ltb-true x high (not-false-is (ltb x high) parts.0), rising_from (x + 1) high xs (rest_up x xs up) (next_up x xs up) parts.1)
  where
    not-false-is : (b : Bool) → not b ≡ false → b ≡ true
    not-false-is true h = refl
    not-false-is false h = sym h

    rest_up : (x : ℕ) (xs : List ℕ) → IsStrictlyIncreasing (x ∷ xs) → IsStrictlyIncreasing xs
    rest_up x xs up k lt =
        let one : suc k + 1 ≡ suc (k + 1) = omega arith in
        let here : get_or xs k 0 < get_or (x ∷ xs) (suc k + 1) 0 = up (suc k) (omega arith) in
        subst (λ (n : ℕ). get_or xs k 0 < get_or (x ∷ xs) n 0) one here

    next_up : (x : ℕ) (xs : List ℕ) → IsStrictlyIncreasing (x ∷ xs) → (first : ℕ) → slice_get xs 0 ≡ Some first → x + 1 ≤ first
    next_up x [] up first h = absurd (let no : None ≡ Some first = h in cc)
    next_up x (y ∷ xs) up first h =
        let same : y ≡ first = let here : Some y ≡ Some first = h in cc in
        let less : x < y = up 0 (omega arith) in
        omega arith

-- numbers that rise strictly, each below high
pub rising_below : (high : ℕ) (xs : List ℕ) → IsStrictlyIncreasing xs → list_any (λ n. not (ltb n high)) xs ≡ false → AreRising 0 high xs
rising_below high xs up below = rising_from 0 high xs up (λ first h. omega arith) below

-- each of them is below high
pub below_high : (low high : ℕ) (xs : List ℕ) (k : ℕ) → AreRising low high xs → k < length xs → get_or xs k 0 < high
below_high low high [] k h lt = absurd (omega arith)
below_high low high (x ∷ xs) zero h lt = h.1
below_high low high (x ∷ xs) (suc k) h lt = below_high (x + 1) high xs k h.2 (omega arith)

-- all are below high where each is
pub none_above : (high : ℕ) (xs : List ℕ) → ((k : ℕ) → k < length xs → get_or xs k 0 < high) → list_any (λ n. not (ltb n high)) xs ≡ false
none_above high [] h = refl
none_above high (x ∷ xs) h = or_from (not (ltb x high)) (list_any (λ n. not (ltb n high)) xs) (ap not (lt-ltb x high (h 0 (omega arith)))) (none_above high xs (λ k lt. h (suc k) (omega arith)))
