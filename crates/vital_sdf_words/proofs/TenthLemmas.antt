-- The tenths that a reading comes to, and whether more digits follow.
use Rattle.std.proofs.Common.{◌≡◌, ℕ, zero, suc, ◌+◌, ◌-◌, ◌*◌, ◌/◌, ◌%◌, ◌^◌, ◌<◌, ◌≤◌, inl, inr, sym, ◌∙◌, ap, arith}
use Rattle.std.specs.Prelude.{◌⊎◌, nat_lt}
use Rattle.std.proofs.Math.Arith.{mod-mul}
use Rattle.std.proofs.Math.Nat.{div-one, mod-one, mul-div-mul_right, mul-div_cancel, mul-mod_left, mul_assoc, pow-suc}
use Rattle.std.proofs.lemmas.Bool.Decides.{nat_tests}
use Rattle.std.proofs.lemmas.Nat.{pow-add}
use Rattle.vital_sdf_words.proofs.ReadingLemmas.{ten_pow}

-- a product with a power of ten is 0 where the number is
any-times : (n k : ℕ) → nat_lt 0 (n * 10 ^ k) ≡ nat_lt 0 n
any-times n zero = ap (nat_lt 0) (omega arith)
any-times n (suc k) =
    let before = any-times n k in
    let next : n * 10 ^ suc k ≡ n * 10 ^ k * 10 = ap (λ p. n * p) (pow-suc 10 k) ∙ sym (mul_assoc n (10 ^ k) 10) in
    let more : nat_lt 0 (n * 10 ^ k * 10) ≡ nat_lt 0 (n * 10 ^ k) = grind (arith, nat_tests) in
    ap (nat_lt 0) next ∙ more ∙ before

pub record Tenths (m f p : ℕ) : Type 0 where
  pub all : m / 10 ^ (f - (p + 1)) * 10 ^ ((p + 1) - f) ≡ m * 10 ^ p * 10 / 10 ^ f
  pub more : nat_lt 0 (m % 10 ^ (f - (p + 1))) ≡ nat_lt 0 (m * 10 ^ p * 10 % 10 ^ f)

tenths-at : (m f p : ℕ) → (f ≤ p + 1) ⊎ (p + 1 < f) → Tenths m f p
tenths-at m f p (inl few) =
    let left = (p + 1) - f in
    let none : f - (p + 1) ≡ 0 = omega arith in
    let all : p + 1 ≡ left + f = omega arith in
    let power : 10 ^ p * 10 ≡ 10 ^ left * 10 ^ f = sym (pow-suc 10 p) ∙ ap (λ k. 10 ^ k) (omega arith) ∙ pow-add 10 left f in
    let product : m * 10 ^ p * 10 ≡ m * 10 ^ left * 10 ^ f = mul_assoc m (10 ^ p) 10 ∙ ap (λ k. m * k) power ∙ sym (mul_assoc m (10 ^ left) (10 ^ f)) in
    record {
      all = ap (λ k. m / 10 ^ k * 10 ^ left) none ∙ ap (λ n. n * 10 ^ left) (div-one m) ∙ sym (ap (λ n. n / 10 ^ f) product ∙ mul-div_cancel (m * 10 ^ left) (ten_pow f));
      more = ap (nat_lt 0) (ap (λ k. m % 10 ^ k) none ∙ mod-one m ∙ sym (ap (λ n. n % 10 ^ f) product ∙ mul-mod_left (m * 10 ^ left) (10 ^ f)));
    }
tenths-at m f p (inr many) =
    let w = p + 1 in
    let k = f - w in
    let none : w - f ≡ 0 = omega arith in
    let power : 10 ^ f ≡ 10 ^ k * 10 ^ w = ap (λ j. 10 ^ j) (omega arith) ∙ pow-add 10 k w in
    let product : m * 10 ^ p * 10 ≡ m * 10 ^ w = mul_assoc m (10 ^ p) 10 ∙ ap (λ n. m * n) (sym (pow-suc 10 p) ∙ ap (λ j. 10 ^ j) (omega arith)) in
    let rest : (m * 10 ^ w) % (10 ^ k * 10 ^ w) ≡ m % 10 ^ k * 10 ^ w =
    mod-mul (m * 10 ^ w) (ten_pow k) (ten_pow w)
    ∙ ap (λ n. n % 10 ^ k * 10 ^ w + m * 10 ^ w % 10 ^ w) (mul-div_cancel m (ten_pow w))
    ∙ ap (λ n. m % 10 ^ k * 10 ^ w + n) (mul-mod_left m (10 ^ w))
    ∙ omega arith in
    record {
      all = ap (λ j. m / 10 ^ k * 10 ^ j) none ∙ omega arith ∙ sym (ap (λ n. n / 10 ^ f) product ∙ ap (λ d. m * 10 ^ w / d) power ∙ mul-div-mul_right m (10 ^ k) (ten_pow w));
      more = sym (any-times (m % 10 ^ k) w) ∙ ap (nat_lt 0) (sym (ap (λ n. n % 10 ^ f) product ∙ ap (λ d. m * 10 ^ w % d) power ∙ rest));
    }

few_or_many : (f w : ℕ) → (f ≤ w) ⊎ (w < f)
few_or_many f w = grind arith

pub tenths : (m f p : ℕ) → Tenths m f p
tenths m f p = tenths-at m f p (few_or_many f (p + 1))
