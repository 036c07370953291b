-- Masks of rows as numbers.
use Rattle.std.proofs.Common.{◌≡◌, ℕ, zero, suc, ◌+◌, ◌-◌, ◌*◌, ◌/◌, ◌^◌, ◌<◌, ◌≤◌, min, Bool, true, false, not, ◌&&◌, eqb, cond, List, [], ◌∷◌, ◌++◌, length, map, take, get_or, Option, Some, None, refl, sym, ap, ◌∙◌, subst, inl, inr, arith, add-zero}
use Rattle.std.specs.Prelude.{IfSome}
use Rattle.std.specs.Int.{bit_at}
use Rattle.std.specs.Int.Bits.{bit_and, bit_or}
use Rattle.std.specs.Int.Count.{count_trailing_zeros}
use Rattle.std.specs.List.{position, position_or_len}
use Rattle.std.specs.Simd.Lanes.{mask_l}
use Rattle.std.proofs.Math.Nat.{pow-succ', zero-mul}
use Rattle.std.proofs.lemmas.Bool.{cases_eq, eq-eqb, ne_eqb, le-ltb, lt-ltb}
use Rattle.std.proofs.lemmas.List.{length-map, length-take, take_more}
use Rattle.std.proofs.lemmas.List.Quantifiers.{position-Some}
use Rattle.std.proofs.lemmas.Nat.{or_disjoint}
use Rattle.std.proofs.lemmas.Nat.Bits.{bit_at_and, bit_at_above, and_pow, ones_shr, same_from_bits}
use Rattle.std.proofs.lemmas.Simd.{bit_mask_l, leading_from_mask_l, mask_l-lt, trailing_mask_l}

-- ---- two masks

both_bits : {A : Type 0} (p q : A → Bool) (xs : List A) (i : ℕ) →
    min (cond (get_or (map p xs) i false) 1 0) (cond (get_or (map q xs) i false) 1 0) ≡ cond (get_or (map (λ x. p x && q x) xs) i false) 1 0
both_bits p q [] i = refl
both_bits p q (x ∷ xs) zero = one_bit (p x) (q x)
  where
    one_bit : (a b : Bool) → min (cond a 1 0) (cond b 1 0) ≡ cond (a && b) 1 0
    one_bit true true = refl
    one_bit true false = refl
    one_bit false true = refl
    one_bit false false = refl
both_bits p q (x ∷ xs) (suc i) = both_bits p q xs i

-- what is in two masks passes both tests
pub mask-and : {A : Type 0} (p q : A → Bool) (xs : List A) → bit_and (mask_l (map p xs)) (mask_l (map q xs)) ≡ mask_l (map (λ x. p x && q x) xs)
mask-and p q xs =
    same_from_bits (bit_and (mask_l (map p xs)) (mask_l (map q xs))) (mask_l (map (λ x. p x && q x) xs))
    (λ i.
    bit_at_and (mask_l (map p xs)) (mask_l (map q xs)) i
    ∙ ap (λ (b : ℕ). min b (bit_at (mask_l (map q xs)) i)) (bit_mask_l (map p xs) i)
    ∙ ap (λ (b : ℕ). min (cond (get_or (map p xs) i false) 1 0) b) (bit_mask_l (map q xs) i)
    ∙ both_bits p q xs i
    ∙ sym (bit_mask_l (map (λ x. p x && q x) xs) i))

-- tests that agree have one mask
pub mask_same : {A : Type 0} (p q : A → Bool) (xs : List A) → ((x : A) → p x ≡ q x) → mask_l (map p xs) ≡ mask_l (map q xs)
mask_same p q [] same = refl
mask_same p q (x ∷ xs) same = ap (λ (b : Bool). cond b 1 0 + 2 * mask_l (map p xs)) (same x) ∙ ap (λ (m : ℕ). cond (q x) 1 0 + 2 * m) (mask_same p q xs same)

-- ---- one more row

shifted : (a m low high : ℕ) → high ≡ 2 * low → a + 2 * (m + low) ≡ (a + 2 * m) + high
shifted a m low high e = omega arith

last_bit : (b : Bool) → cond b 1 0 + 2 * 0 ≡ 0 + cond b (2 ^ 0) 0
last_bit true = refl
last_bit false = refl

later_bit : (b : Bool) (a m k : ℕ) → a + 2 * (m + cond b (2 ^ k) 0) ≡ (a + 2 * m) + cond b (2 ^ suc k) 0
later_bit true a m k = shifted a m (2 ^ k) (2 ^ suc k) (pow-succ' 2 k)
later_bit false a m k = shifted a m 0 0 refl

mask-push : {A : Type 0} (p : A → Bool) (xs : List A) (x : A) → mask_l (map p (xs ++ x ∷ [])) ≡ mask_l (map p xs) + cond (p x) (2 ^ length xs) 0
mask-push p [] x = last_bit (p x)
mask-push p (y ∷ ys) x = ap (λ (m : ℕ). cond (p y) 1 0 + 2 * m) (mask-push p ys x) ∙ later_bit (p x) (cond (p y) 1 0) (mask_l (map p ys)) (length ys)

-- a bit above all that are set
or_bit : (m k : ℕ) → m < 2 ^ k → bit_or m (2 ^ k) ≡ m + 2 ^ k
or_bit m k h = or_disjoint m (2 ^ k) (and_pow m k ∙ ap (λ (b : ℕ). b * 2 ^ k) (bit_at_above m k k h (let e : k ≤ k = omega arith in e)) ∙ zero-mul (2 ^ k))

added : (b : Bool) (m k : ℕ) → m < 2 ^ k → cond b (bit_or m (2 ^ k)) m ≡ m + cond b (2 ^ k) 0
added true m k h = or_bit m k h
added false m k h = sym (add-zero m)

-- one turn of a loop that adds the bits of rows that pass
pub mask_turn : {A : Type 0} (p : A → Bool) (xs : List A) (i : ℕ) (x : A) (b : Bool) (m : ℕ) → i < length xs → x ≡ get_or xs i x → b ≡ p x → m ≡ mask_l (map p (take i xs)) →
    cond b (bit_or m (2 ^ i)) m ≡ mask_l (map p (take (i + 1) xs))
mask_turn p xs i x b m within is same before =
    let front : length (take i xs) ≡ i = omega (arith, length-take i xs) in
    let below : mask_l (map p (take i xs)) < 2 ^ i = subst (λ (k : ℕ). mask_l (map p (take i xs)) < 2 ^ k) (length-map (take i xs) p ∙ front) (mask_l-lt (map p (take i xs))) in
    added b m i (subst (λ (k : ℕ). k < 2 ^ i) (sym before) below)
    ∙ ap (λ (k : ℕ). k + cond b (2 ^ i) 0) before
    ∙ ap (λ (c : Bool). mask_l (map p (take i xs)) + cond c (2 ^ i) 0) same
    ∙ ap (λ (k : ℕ). mask_l (map p (take i xs)) + cond (p x) (2 ^ k) 0) (sym front)
    ∙ sym (mask-push p (take i xs) x)
    ∙ ap (λ ys. mask_l (map p ys)) (sym (take_more xs i x within ∙ ap (λ y. take i xs ++ y ∷ []) (sym is)))

-- ---- all rows

doubled : (m k n : ℕ) → m + 1 ≡ k → n ≡ 2 * k → (1 + 2 * m) + 1 ≡ n
doubled m k n e f = omega arith

all_plus : {A : Type 0} (xs : List A) → mask_l (map (λ (x : A). true) xs) + 1 ≡ 2 ^ length xs
all_plus [] = refl
all_plus {A} (x ∷ xs) = doubled (mask_l (map (λ (x : A). true) xs)) (2 ^ length xs) (2 ^ suc (length xs)) (all_plus xs) (pow-succ' 2 (length xs))

pub all_mask : {A : Type 0} (xs : List A) → length xs ≤ 128 → (2 ^ 128 - 1) / 2 ^ (128 - length xs) ≡ mask_l (map (λ (x : A). true) xs)
all_mask {A} xs few =
    ones_shr 128 (128 - length xs) (let e : 128 - length xs ≤ 128 = omega arith in e)
    ∙ ap (λ (k : ℕ). 2 ^ k - 1) (let e : 128 - (128 - length xs) ≡ length xs = omega arith in e)
    ∙ (let f : 2 ^ length xs - 1 ≡ mask_l (map (λ (x : A). true) xs) = omega (arith, all_plus xs) in f)

pub none_mask : {A : Type 0} (xs : List A) → length xs ≡ 0 → 0 ≡ mask_l (map (λ (x : A). true) xs)
none_mask [] e = refl
none_mask (x ∷ xs) e = absurd (let f : suc (length xs) ≡ 0 = e in omega arith)

-- ---- the first row

found_here : (b : Bool) (m n k : ℕ) → 0 < cond b 1 0 + 2 * m → (0 < m → n < k) → cond (not b) (1 + n) 0 < suc k
found_here true m n k some later = let e : 0 < suc k = omega arith in e
found_here false m n k some later =
    let f : 0 < 0 + 2 * m = some in
    let below : n < k = later (omega arith) in
    let e : 1 + n < suc k = omega arith in
    e

there_is_one : {A : Type 0} (p : A → Bool) (xs : List A) → 0 < mask_l (map p xs) → position_or_len p xs < length xs
there_is_one p [] some = absurd (let e : 0 < 0 = some in omega arith)
there_is_one p (x ∷ xs) some = found_here (p x) (mask_l (map p xs)) (position_or_len p xs) (length xs) some (there_is_one p xs)

position_none : {A : Type 0} (p : A → Bool) (xs : List A) → mask_l (map p xs) ≡ 0 → position p xs ≡ None
position_none p xs none =
    ap (λ (b : Bool). cond b (Some (position_or_len p xs)) None) (le-ltb (position_or_len p xs) (length xs) (let e : position_or_len p xs ≡ length xs = leading_from_mask_l p xs none in omega arith))

position_some : {A : Type 0} (p : A → Bool) (xs : List A) → length xs ≤ 128 → 0 < mask_l (map p xs) → position p xs ≡ Some (count_trailing_zeros 128 (mask_l (map p xs)))
position_some p xs few some =
    ap (λ (b : Bool). cond b (Some (position_or_len p xs)) None) (lt-ltb (position_or_len p xs) (length xs) (there_is_one p xs some))
    ∙ ap (λ (k : ℕ). Some k) (sym (trailing_mask_l p 128 xs few some))

-- the lowest bit of a mask is that of the first row
pub lowest_bit : {A : Type 0} (p : A → Bool) (xs : List A) (m : ℕ) → length xs ≤ 128 → m ≡ mask_l (map p xs) → cond (eqb m 0) None (Some (count_trailing_zeros 128 m)) ≡ position p xs
lowest_bit p xs m few e =
    elim (cases_eq m 0) [
      | inl none ↦ ap (λ (b : Bool). cond b None (Some (count_trailing_zeros 128 m))) (eq-eqb m 0 none) ∙ sym (position_none p xs (sym e ∙ none))
      | inr some ↦
          let more : 0 < mask_l (map p xs) = omega arith in
          ap (λ (b : Bool). cond b None (Some (count_trailing_zeros 128 m))) (ne_eqb m 0 some)
          ∙ ap (λ (k : ℕ). Some (count_trailing_zeros 128 k)) e
          ∙ sym (position_some p xs few more)
    ]

-- it is there
pub is_there : (p : List ℕ → Bool) (xs : List (List ℕ)) (o : Option ℕ) → o ≡ position p xs → IfSome o (λ i. i < length xs)
is_there p xs None e = tt
is_there p xs (Some i) e = (position-Some p xs i [] (sym e)).0
