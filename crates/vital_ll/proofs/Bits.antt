-- Bits of masks.
use Rattle.std.proofs.Common.{◌≡◌, ℕ, zero, suc, ◌+◌, ◌-◌, ◌*◌, ◌%◌, ◌^◌, ◌<◌, ◌≤◌, min, max, Bool, true, false, not, ◌||◌, ◌&&◌, eqb, Some, None, refl, sym, ap, ◌∙◌, subst, arith, inl, inr, ◌⊎◌}
use mir.Syntax.{w128}
use mir.Val.{bool_byte}
use Rattle.std.specs.Int.{bit_at, bit_not, trailing_zeros}
use Rattle.std.specs.Int.Bits.{bit_or, bit_and}
use Rattle.std.proofs.lemmas.Bool.{eqb-true, eq-eqb, ne_eqb, cases_eq, and_right}
use Rattle.std.proofs.lemmas.Nat.{and_le_l}
use Rattle.std.proofs.lemmas.Nat.Bits.{bit_at_or, bit_at_and, bit_at-lt, bit_at-zero, bit_at-suc, bit_at_ones, bit_at_clear_same, bit_at_clear_other, bit_at_set_same, bit_at_set_other, bit_at-trailing_zeros}
use Rattle.vital_ll.specs.Marks.{has, is_of_kind}
use Rattle.vital_ll.specs.Masks.{token_at, bit_of}
use Rattle.vital_ll.specs.Sentence.{Next}

max_or : (a b : ℕ) → a < 2 → b < 2 → eqb (max a b) 1 ≡ (eqb a 1 || eqb b 1)
max_or zero zero h k = refl
max_or zero (suc zero) h k = refl
max_or (suc zero) zero h k = refl
max_or (suc zero) (suc zero) h k = refl
max_or (suc (suc a)) b h k = absurd (omega arith)
max_or zero (suc (suc b)) h k = absurd (omega arith)
max_or (suc zero) (suc (suc b)) h k = absurd (omega arith)

min_and : (a b : ℕ) → a < 2 → b < 2 → eqb (min a b) 1 ≡ (eqb a 1 && eqb b 1)
min_and zero zero h k = refl
min_and zero (suc zero) h k = refl
min_and (suc zero) zero h k = refl
min_and (suc zero) (suc zero) h k = refl
min_and (suc (suc a)) b h k = absurd (omega arith)
min_and zero (suc (suc b)) h k = absurd (omega arith)
min_and (suc zero) (suc (suc b)) h k = absurd (omega arith)

pub has-or : (a b i : ℕ) → has (bit_or a b) i ≡ (has a i || has b i)
has-or a b i = ap (λ (x : ℕ). eqb x 1) (bit_at_or a b i) ∙ max_or (bit_at a i) (bit_at b i) (bit_at-lt a i) (bit_at-lt b i)

pub has-and : (a b i : ℕ) → has (bit_and a b) i ≡ (has a i && has b i)
has-and a b i = ap (λ (x : ℕ). eqb x 1) (bit_at_and a b i) ∙ min_and (bit_at a i) (bit_at b i) (bit_at-lt a i) (bit_at-lt b i)

pub has_none : (i : ℕ) → has 0 i ≡ false
has_none i = ap (λ (x : ℕ). eqb x 1) (bit_at-zero i)

pub has_all : (i : ℕ) → i < 128 → has (2 ^ 128 - 1) i ≡ true
has_all i h = eq-eqb (bit_at (2 ^ 128 - 1) i) 1 (bit_at_ones 128 i h)

same_test : (a b c d : ℕ) → (a ≡ b → c ≡ d) → (c ≡ d → a ≡ b) → eqb a b ≡ eqb c d
same_test a b c d there back =
    elim (cases_eq a b) [
      | inl e ↦ eq-eqb a b e ∙ sym (eq-eqb c d (there e))
      | inr n ↦ ne_eqb a b n ∙ sym (ne_eqb c d (λ e. n (back e)))
    ]

-- the one bit of `1 << k`
has_shifted : (k i : ℕ) → k < 128 → has (1 * 2 ^ k % 2 ^ 128) i ≡ eqb i k
has_shifted k i h =
    elim (cases_eq i k) [
      | inl e ↦ sym (alone i) ∙ eq-eqb (bit_at (bit_or 0 (1 * 2 ^ k % 2 ^ 128)) i) 1 (subst (λ (x : ℕ). bit_at (bit_or 0 (1 * 2 ^ k % 2 ^ 128)) x ≡ 1) (sym e) (bit_at_set_same w128 0 k h)) ∙ sym (eq-eqb i k e)
      | inr n ↦
          let none : bit_at (bit_or 0 (1 * 2 ^ k % 2 ^ 128)) i ≡ 0 = bit_at_set_other w128 0 k h i n ∙ bit_at-zero i in
          sym (alone i) ∙ ap (λ (x : ℕ). eqb x 1) none ∙ sym (ne_eqb i k n)
    ]
  where
    alone : (j : ℕ) → has (bit_or 0 (1 * 2 ^ k % 2 ^ 128)) j ≡ has (1 * 2 ^ k % 2 ^ 128) j
    alone j = has-or 0 (1 * 2 ^ k % 2 ^ 128) j ∙ ap (λ (b : Bool). b || has (1 * 2 ^ k % 2 ^ 128) j) (has_none j)

-- the token of a bit is of the kind where the bit is that of the kind
kind_at : (kind bit : ℕ) → is_of_kind kind (token_at bit) ≡ eqb bit (kind + 1)
kind_at kind zero = sym (ne_eqb 0 (kind + 1) (λ e. omega arith))
kind_at kind (suc t) = same_test kind t (suc t) (kind + 1) (λ e. omega arith) (λ e. omega arith)

pub kind_inside : (kind base i : ℕ) → base ≤ kind + 1 → (kind + 1) - base < 128 → has (1 * 2 ^ ((kind + 1) - base) % 2 ^ 128) i ≡ is_of_kind kind (token_at (base + i))
kind_inside kind base i above within =
    has_shifted ((kind + 1) - base) i within ∙ same_test i ((kind + 1) - base) (base + i) (kind + 1) (λ e. omega arith) (λ e. omega arith) ∙ sym (kind_at kind (base + i))

-- one more rule of symbols that can begin with a token
pub begin_more : (found empty first nullable rest : Bool) → ((found || (empty && first)) || ((empty && nullable) && rest)) ≡ (found || (empty && (first || (nullable && rest))))
begin_more true empty first nullable rest = refl
begin_more false true true nullable rest = refl
begin_more false true false nullable rest = refl
begin_more false false first nullable rest = refl

-- the lowest bit is one that is set
pub lowest : (mask : ℕ) → (mask ≡ 0 → ⊥) → mask < 2 ^ 128 → (trailing_zeros w128 mask < 128) × (has mask (trailing_zeros w128 mask) ≡ true)
lowest mask some fits =
    let p = bit_at-trailing_zeros w128 mask (omega arith) fits in
    (p.0, eq-eqb (bit_at mask (trailing_zeros w128 mask)) 1 p.1)

-- clearing a bit that is set makes the mask smaller, and leaves the other bits
pub cleared : (mask k : ℕ) → k < 128 → has mask k ≡ true → let left = bit_and mask (bit_not w128 (1 * 2 ^ k % 2 ^ 128)) in
    (left < mask) × ((i : ℕ) → i < 128 → has left i ≡ (has mask i && not (eqb i k)))
cleared mask k within set =
    let left : ℕ = bit_and mask (bit_not w128 (1 * 2 ^ k % 2 ^ 128)) in
    let gone : bit_at left k ≡ 0 = bit_at_clear_same w128 mask k within in
    let here : bit_at mask k ≡ 1 = eqb-true (bit_at mask k) 1 set in (
      elim (cases_eq left mask) [
        | inl same ↦ absurd (let both : bit_at left k ≡ bit_at mask k = ap (λ (x : ℕ). bit_at x k) same in omega arith)
        | inr other ↦ let most : left ≤ mask = and_le_l mask (bit_not w128 (1 * 2 ^ k % 2 ^ 128)) in omega arith
      ],
      λ i low. elim (cases_eq i k) [
        | inl same ↦
            subst (λ (x : ℕ). has left x ≡ (has mask x && not (eqb x k))) (sym same)
            (ap (λ (x : ℕ). eqb x 1) gone ∙ sym (ap (λ (b : Bool). has mask k && not b) (eq-eqb k k refl) ∙ and_right (has mask k) false refl))
        | inr other ↦
            ap (λ (x : ℕ). eqb x 1) (bit_at_clear_other w128 mask k within i low other) ∙ sym (ap (λ (b : Bool). has mask i && not b) (ne_eqb i k other) ∙ and_true (has mask i))
      ],
    )
  where
    and_true : (b : Bool) → (b && true) ≡ b
    and_true true = refl
    and_true false = refl

pub and_same : (a b c : Bool) → ((a && b) && c) ≡ (a && (b && c))
and_same true b c = refl
and_same false b c = refl

-- the end's bit, which is the first of the first block
only_lowest : (i : ℕ) → has 1 i ≡ true → i ≡ 0
only_lowest zero h = refl
only_lowest (suc i) h = absurd (let e : bit_at 1 (suc i) ≡ 0 = bit_at-suc 1 i ∙ bit_at-zero i in let f : bit_at 1 (suc i) ≡ 1 = eqb-true (bit_at 1 (suc i)) 1 h in omega arith)

first_block : (base end : ℕ) → end ≡ bool_byte (eqb base 0) → ((base ≡ 0) × (end ≡ 1)) ⊎ ((base ≡ 0 → ⊥) × (end ≡ 0))
first_block base end e =
    elim (cases_eq base 0) [
      | inl first ↦ inl (first, e ∙ ap bool_byte (eq-eqb base 0 first))
      | inr later ↦ inr (later, e ∙ ap bool_byte (ne_eqb base 0 later))
    ]

pub end_bit : (base i end : ℕ) → end ≡ bool_byte (eqb base 0) → has end i ≡ true → base + i ≡ 0
end_bit base i end e h =
    elim (first_block base end e) [
      | inl first ↦ let at : i ≡ 0 = only_lowest i (ap (λ (x : ℕ). has x i) (sym first.1) ∙ h) in let f : base ≡ 0 = first.0 in omega arith
      | inr later ↦ absurd (let none : has 0 i ≡ false = has_none i in let on : has 0 i ≡ true = ap (λ (x : ℕ). has x i) (sym later.1) ∙ h in cc)
    ]

pub bit_end : (base i end : ℕ) → end ≡ bool_byte (eqb base 0) → base + i ≡ 0 → has end i ≡ true
bit_end base i end e h =
    elim (first_block base end e) [
      | inl first ↦ ap (λ (x : ℕ). has x i) first.1 ∙ ap (λ (x : ℕ). has 1 x) (let at : i ≡ 0 = omega arith in at)
      | inr later ↦ absurd (later.0 (omega arith))
    ]

-- the token of a token's bit
pub token_at-bit : (t : Next) → token_at (bit_of t) ≡ t
token_at-bit None = refl
token_at-bit (Some k) = ap token_at (let f : k + 1 ≡ suc k = omega arith in f)
