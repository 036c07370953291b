-- Decimal digits, as std's `digits_value` reads them.
use Rattle.std.proofs.Common.{◌≡◌, ℕ, zero, suc, ◌+◌, ◌-◌, ◌*◌, ◌<◌, ◌≤◌, ◌^◌, true, List, [], ◌∷◌, length, get_or, take, ◌&&◌, leb, add-zero, add-suc, arith}
use Rattle.std.specs.Char.{is_ascii_digit, digit_value}
use Rattle.std.specs.List.{list_all}
use Rattle.std.specs.Str.Parse.{AllDigits, digits_value}
use Rattle.vital_base.specs.Times.{is_number}
use Rattle.std.proofs.Math.Nat.{pow-suc}
use Rattle.std.proofs.lemmas.Bool.{and_parts, leb-true}
use Rattle.std.proofs.lemmas.Bool.Decides.{nat_tests}
use Rattle.std.proofs.lemmas.Int.Digits.{digits_value-lt, digits_value_more}
use Rattle.std.proofs.lemmas.List.{length-take}

-- a decimal digit's value, and where its byte lies
pub digit_is : (c : ℕ) → is_ascii_digit c ≡ true → (digit_value c ≡ c - 48) × (48 ≤ c) × (c < 58)
digit_is c h =
    let low : 48 ≤ c = grind (arith, nat_tests) in
    let high : c < 58 = grind (arith, nat_tests) in
    (grind (arith, nat_tests), low, high)

digits_all : (ds : List ℕ) (n : ℕ) → list_all is_ascii_digit ds ≡ true → AllDigits 10 (take n ds)
digits_all ds zero h = tt
digits_all [] (suc n) h = tt
digits_all (d ∷ ds) (suc n) h =
    let both = and_parts (is_ascii_digit d) (list_all is_ascii_digit ds) h in
    let value = digit_is d both.0 in
    (omega arith, digits_all ds n both.1)

digit_at : (ds : List ℕ) (i : ℕ) → list_all is_ascii_digit ds ≡ true → i < length ds → is_ascii_digit (get_or ds i 0) ≡ true
digit_at [] i h lt = absurd (omega arith)
digit_at (d ∷ ds) zero h lt = (and_parts (is_ascii_digit d) (list_all is_ascii_digit ds) h).0
digit_at (d ∷ ds) (suc i) h lt = digit_at ds i (and_parts (is_ascii_digit d) (list_all is_ascii_digit ds) h).1 (omega arith)

ten_pow-le : (i j : ℕ) → 10 ^ i ≤ 10 ^ (i + j)
ten_pow-le i zero = rw add-zero (omega arith)
ten_pow-le i (suc j) = rw (add-suc, pow-suc) (omega (arith, ten_pow-le i j))

-- one digit more
pub record ReadsDigit (ds : List ℕ) (i : ℕ) : Type 0 where
  pub low : 48 ≤ get_or ds i 0
  pub high : get_or ds i 0 < 58
  pub next : digits_value 10 (take (i + 1) ds) ≡ digits_value 10 (take i ds) * 10 + (get_or ds i 0 - 48)
  pub small : digits_value 10 (take (i + 1) ds) < 10 ^ 19

pub reads_digit : (ds : List ℕ) (i : ℕ) → is_number ds ≡ true → i < length ds → ReadsDigit ds i
reads_digit ds i h lt =
    let parts = and_parts (leb 1 (length ds) && leb (length ds) 19) (list_all is_ascii_digit ds) h in
    let few : length ds ≤ 19 = leb-true _ _ (and_parts (leb 1 (length ds)) (leb (length ds) 19) parts.0).1 in
    let digit = digit_is (get_or ds i 0) (digit_at ds i parts.1 lt) in
    let bound = digits_value-lt 10 (take (i + 1) ds) (digits_all ds (i + 1) parts.1) in
    let short : length (take (i + 1) ds) ≤ 19 = omega (arith, length-take (i + 1) ds) in
    let n : ℕ = length (take (i + 1) ds) in
    let rest : n + (19 - n) ≡ 19 = omega arith in
    let limit : 10 ^ n ≤ 10 ^ 19 = rw rest at (ten_pow-le n (19 - n)) in
    let more = digits_value_more 10 ds i lt in
    record {
      low = digit.1;
      high = digit.2;
      next = omega (arith, more, digit.0);
      small = omega (arith, bound, limit);
    }
