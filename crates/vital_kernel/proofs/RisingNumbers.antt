-- Numbers that rise: they are the same where the same ones are listed.
use Rattle.std.proofs.Common.{◌≡◌, ℕ, suc, ◌+◌, ◌<◌, ◌≤◌, Bool, true, false, ◌||◌, eqb, List, [], ◌∷◌, length, get_or, inl, inr, refl, sym, ap, subst, ◌∙◌, arith}
use Rattle.std.specs.List.Sorted.{IsStrictlyIncreasing}
use Rattle.std.proofs.lemmas.Bool.{cases_Bool, cases_lt, eq-eqb, eqb-true, false≢true, ne_eqb}
use Rattle.vital_signals.specs.Lists.{is_listed}

-- They rise strictly, from low on.
abbrev pub RiseFrom : ℕ → List ℕ → Type 0
RiseFrom low [] = Unit {0}
RiseFrom low (x ∷ xs) = (low ≤ x) × RiseFrom (x + 1) xs

pub rise-lower : (low high : ℕ) (xs : List ℕ) → low ≤ high → RiseFrom high xs → RiseFrom low xs
rise-lower low high [] le rise = tt
rise-lower low high (x ∷ xs) le rise = (omega (arith, le, rise.0), rise.1)

pub rise-of : (low : ℕ) (xs : List ℕ) → IsStrictlyIncreasing xs → (0 < length xs → low ≤ get_or xs 0 0) → RiseFrom low xs
rise-of low [] up first = tt
rise-of low (x ∷ xs) up first = (first (omega arith), rise-of (x + 1) xs (λ k lt. others k lt) (λ some. next some))
  where
    others : (k : ℕ) → k + 1 < length xs → get_or xs k 0 < get_or xs (k + 1) 0
    others k lt =
        let one : suc k + 1 ≡ suc (k + 1) = omega arith in
        subst (λ (n : ℕ). get_or xs k 0 < get_or (x ∷ xs) n 0) one (up (suc k) (omega arith))

    next : 0 < length xs → x + 1 ≤ get_or xs 0 0
    next some =
        let less : get_or (x ∷ xs) 0 0 < get_or (x ∷ xs) (0 + 1) 0 = up 0 (omega arith) in
        omega (arith, less)

-- ---- the same ones are listed

none-below : (n low : ℕ) (xs : List ℕ) → n < low → RiseFrom low xs → is_listed n xs ≡ false
none-below n low [] lt rise = refl
none-below n low (x ∷ xs) lt rise =
    ap (λ (b : Bool). b || is_listed n xs) (ne_eqb x n (λ same. omega (arith, same, rise.0, lt))) ∙ none-below n (x + 1) xs (omega (arith, rise.0, lt)) rise.1

first-listed : (x : ℕ) (xs : List ℕ) → is_listed x (x ∷ xs) ≡ true
first-listed x xs = ap (λ (b : Bool). b || is_listed x xs) (eq-eqb x x refl)

not-listed : (x y : ℕ) (ys : List ℕ) → x < y → RiseFrom (y + 1) ys → is_listed x (y ∷ ys) ≡ false
not-listed x y ys lt rise = none-below x y (y ∷ ys) lt (omega arith, rise)

rest-same : (x : ℕ) (xs ys : List ℕ) → RiseFrom (x + 1) xs → RiseFrom (x + 1) ys → ((n : ℕ) → is_listed n (x ∷ xs) ≡ is_listed n (x ∷ ys)) → (n : ℕ) → is_listed n xs ≡ is_listed n ys
rest-same x xs ys rise-xs rise-ys same n = elim (cases_Bool (eqb x n)) [
  | inl here ↦
      let less : n < x + 1 = omega (arith, eqb-true x n here) in
      none-below n (x + 1) xs less rise-xs ∙ sym (none-below n (x + 1) ys less rise-ys)
  | inr other ↦
      sym (ap (λ (b : Bool). b || is_listed n xs) other) ∙ same n ∙ ap (λ (b : Bool). b || is_listed n ys) other
]

pub same-rising : (low : ℕ) (xs ys : List ℕ) → RiseFrom low xs → RiseFrom low ys → ((n : ℕ) → is_listed n xs ≡ is_listed n ys) → xs ≡ ys
same-rising low [] [] rise-xs rise-ys same = refl
same-rising low [] (y ∷ ys) rise-xs rise-ys same = absurd (false≢true (same y ∙ first-listed y ys))
same-rising low (x ∷ xs) [] rise-xs rise-ys same = absurd (false≢true (sym (same x) ∙ first-listed x xs))
same-rising low (x ∷ xs) (y ∷ ys) rise-xs rise-ys same = elim (cases_lt x y) [
  | inl less ↦ absurd (false≢true (sym (not-listed x y ys less rise-ys.1) ∙ sym (same x) ∙ first-listed x xs))
  | inr le ↦ elim (cases_lt y x) [
    | inl more ↦ absurd (false≢true (sym (not-listed y x xs more rise-xs.1) ∙ same y ∙ first-listed y ys))
    | inr ge ↦
        let is : y ≡ x = omega (arith, le, ge) in
        let rise : RiseFrom (x + 1) ys = subst (λ (n : ℕ). RiseFrom (n + 1) ys) is rise-ys.1 in
        let here : (n : ℕ) → is_listed n (x ∷ xs) ≡ is_listed n (x ∷ ys) = subst (λ (z : ℕ). (n : ℕ) → is_listed n (x ∷ xs) ≡ is_listed n (z ∷ ys)) is same in
        ap (λ (zs : List ℕ). x ∷ zs) (same-rising (x + 1) xs ys rise-xs.1 rise (rest-same x xs ys rise-xs.1 rise here)) ∙ ap (λ (z : ℕ). z ∷ ys) (sym is)
  ]
]
