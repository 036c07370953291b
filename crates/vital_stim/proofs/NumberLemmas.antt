-- A number, read byte by byte.
use Rattle.std.proofs.Common.{◌≡◌, ℕ, suc, ◌+◌, ◌-◌, ◌*◌, ◌<◌, ◌≤◌, ◌^◌, true, false, List, [], ◌∷◌, length, get_or, take, drop, inl, inr, refl, sym, ◌∙◌, ap, arith}
use Rattle.std.specs.Prelude.{◌⊎◌, Bool, not, cond, ◌&&◌, nat_le, nat_lt, Option, Some, None}
use Rattle.std.specs.Char.{is_ascii_digit, digit_value}
use Rattle.std.specs.List.{list_all, position_or_len}
use Rattle.std.specs.Str.Parse.{digits_value_after}
use Rattle.std.proofs.Math.Nat.{pow-suc, pow-le-pow_right}
use Rattle.std.proofs.Math.Numerals.{one-add}
use Rattle.std.proofs.lemmas.Bool.{ltb-false}
use Rattle.std.proofs.lemmas.Bool.Decides.{nat_tests}
use Rattle.vital_base.specs.Times.{number_of}
use Rattle.vital_stim.specs.Parts.{is_blank, field_of, after_field}

abbrev pub at_end : ℕ → ℕ → List ℕ → Option (ℕ × List ℕ)
at_end value count rest = cond (nat_le 1 count) (Some (value, rest)) None

-- the number after so many digits with this value
abbrev pub number_from : ℕ → ℕ → List ℕ → Option (ℕ × List ℕ)
number_from value count [] = at_end value count []
number_from value count (b ∷ bs) =
    cond (is_blank b) (at_end value count (b ∷ bs))
    (cond (is_ascii_digit b && nat_lt count 19) (number_from (value * 10 + (b - 48)) (count + 1) bs) None)

-- the same by the whole field
abbrev whole : ℕ → ℕ → List ℕ → List ℕ → Option (ℕ × List ℕ)
whole value count digits after =
    cond (nat_le 1 (count + length digits) && nat_le (count + length digits) 19 && list_all is_ascii_digit digits)
    (Some (digits_value_after 10 value digits, after)) None

digit_value-is : (c : ℕ) → is_ascii_digit c ≡ true → digit_value c ≡ c - 48
digit_value-is c h =
    let low : 48 ≤ c = grind (arith, nat_tests) in
    let high : c < 58 = grind (arith, nat_tests) in
    grind (arith, nat_tests)

pub is_digit_small : (c : ℕ) → is_ascii_digit c ≡ true → c - 48 < 10
is_digit_small c h =
    let high : c < 58 = grind (arith, nat_tests) in
    omega arith

and-false : (b : Bool) → (b && false) ≡ false
and-false true = refl
and-false false = refl

-- at the end of the field
ends : (value count : ℕ) (rest : List ℕ) → count ≤ 19 → at_end value count rest ≡ whole value count [] rest
ends value count rest few =
    let same : count + 0 ≡ count = omega arith in
    let within : nat_le count 19 ≡ true = grind (arith, nat_tests) in
    rw (same, within) (ends-cond (nat_le 1 count))
  where
    ends-cond : (b : Bool) → cond {A = Option (ℕ × List ℕ)} b (Some (value, rest)) None ≡ cond {A = Option (ℕ × List ℕ)} (b && true && true) (Some (value, rest)) None
    ends-cond true = refl
    ends-cond false = refl

-- one digit more, or a byte that ends the number badly
goes-digit : (value count b : ℕ) (digits after : List ℕ) (d : Bool) → is_ascii_digit b ≡ d → (room : Bool) → nat_lt count 19 ≡ room
    → (next : Option (ℕ × List ℕ)) → (d ≡ true → room ≡ true → next ≡ whole (value * 10 + (b - 48)) (count + 1) digits after)
    → cond (d && room) next None ≡ whole value count (b ∷ digits) after
goes-digit value count b digits after true e true r next h =
    let value' : value * 10 + digit_value b ≡ value * 10 + (b - 48) = ap (λ n. value * 10 + n) (digit_value-is b e) in
    let count' : count + suc (length digits) ≡ count + 1 + length digits = omega arith in
    rw (count', e, value') (h refl refl)
goes-digit value count b digits after true e false r next h =
    let full : 19 ≤ count = ltb-false count 19 r in
    let over : nat_le (count + suc (length digits)) 19 ≡ false = grind (arith, nat_tests) in
    rw over (rw and-false refl)
goes-digit value count b digits after false e room r next h = rw e (rw and-false refl)

from-step : (value count b : ℕ) (bs : List ℕ) (v : Bool) → is_blank b ≡ v → count ≤ 19
    → (nat_lt count 19 ≡ true → number_from (value * 10 + (b - 48)) (count + 1) bs ≡ whole (value * 10 + (b - 48)) (count + 1) (field_of bs) (after_field bs))
    → cond v (at_end value count (b ∷ bs)) (cond (is_ascii_digit b && nat_lt count 19) (number_from (value * 10 + (b - 48)) (count + 1) bs) None)
    ≡ whole value count (take (cond (not v) (1 + position_or_len is_blank bs) 0) (b ∷ bs)) (drop (cond (not v) (1 + position_or_len is_blank bs) 0) (b ∷ bs))
from-step value count b bs true e few h = ends value count (b ∷ bs) few
from-step value count b bs false e few h = rw one-add (goes-digit value count b (field_of bs) (after_field bs) (is_ascii_digit b) refl (nat_lt count 19) refl _ (λ d r. h r))

pub number_from-whole : (value count : ℕ) (bs : List ℕ) → count ≤ 19 → number_from value count bs ≡ whole value count (field_of bs) (after_field bs)
number_from-whole value count [] few = ends value count [] few
number_from-whole value count (b ∷ bs) few =
    from-step value count b bs (is_blank b) refl few (λ r. let lt : count < 19 = grind (arith, nat_tests) in number_from-whole (value * 10 + (b - 48)) (count + 1) bs (omega arith))

abbrev pair_or : ℕ × List ℕ → Option (ℕ × List ℕ) → ℕ × List ℕ
pair_or p (Some q) = q
pair_or p None = p

abbrev found : ℕ → List ℕ → Option (ℕ × List ℕ)
found n rest = Some (n, rest)

at_some : (n : ℕ) (rest : List ℕ) (v : ℕ) (r : List ℕ) → found n rest ≡ found v r → (Some n ≡ Some v) × (r ≡ rest)
at_some n rest v r h =
    let both = ap (pair_or (n, rest)) h in
    (ap (λ (p : ℕ × List ℕ). Some p.0) both, sym (ap (λ (p : ℕ × List ℕ). p.1) both))

by_number : (b : Bool) (n : ℕ) (rest : List ℕ) (o : Option (ℕ × List ℕ)) → cond {A = Option (ℕ × List ℕ)} b (Some (n, rest)) None ≡ o → (o ≡ None → cond b (Some n) None ≡ None) × ((v : ℕ) (r : List ℕ) → o ≡ Some (v, r) → (cond b (Some n) None ≡ Some v) × (r ≡ rest))
by_number true n rest o e = (λ h. absurd (cc), λ v r h. at_some n rest v r (e ∙ h))
by_number false n rest o e = (λ h. refl, λ v r h. absurd (cc))

zero_add : (bs : List ℕ) → number_from 0 0 bs ≡ cond (nat_le 1 (length (field_of bs)) && nat_le (length (field_of bs)) 19 && list_all is_ascii_digit (field_of bs)) (Some (digits_value_after 10 0 (field_of bs), after_field bs)) None
zero_add bs =
    let none : 0 + length (field_of bs) ≡ length (field_of bs) = omega arith in
    number_from-whole 0 0 bs (omega arith) ∙ rw none refl

pub is_none : (bs : List ℕ) → number_from 0 0 bs ≡ None → number_of (field_of bs) ≡ None
is_none bs h = (by_number _ _ _ _ (sym (zero_add bs))).0 h

pub is_some : (bs : List ℕ) (v : ℕ) (r : List ℕ) → number_from 0 0 bs ≡ Some (v, r) → (number_of (field_of bs) ≡ Some v) × (r ≡ after_field bs)
is_some bs v r h = (by_number _ _ _ _ (sym (zero_add bs))).1 v r h

pub next_small : (value count digit : ℕ) → value < 10 ^ count → digit < 10 → value * 10 + digit < 10 ^ (count + 1)
next_small value count digit h d =
    let one : count + 1 ≡ suc count = omega arith in
    rw (one, pow-suc) (omega (arith, h, d))

pub room : (value count : ℕ) → value < 10 ^ count → count < 19 → value * 10 + 9 < 2 ^ 64
room value count h few =
    let most : 10 ^ count ≤ 10 ^ 18 = pow-le-pow_right {n = 10} (omega arith) {i = count} {j = 18} (omega arith) in
    omega (arith, h, most)

-- where the number ends badly, and where it ends
pub stops : (value count : ℕ) (rest : List ℕ) → 1 ≤ length rest → is_blank (get_or rest 0 0) ≡ false → (is_ascii_digit (get_or rest 0 0) ≡ false) ⊎ (count ≡ 19) → number_from value count rest ≡ None
stops value count [] some blank bad = absurd (omega arith)
stops value count (b ∷ bs) some blank (inl digit) = rw (blank, digit) refl
stops value count (b ∷ bs) some blank (inr full) =
    let over : nat_lt count 19 ≡ false = grind (arith, nat_tests) in
    rw (blank, over) (rw and-false refl)

pub ends_at : (value count : ℕ) (rest : List ℕ) → (length rest < 1) ⊎ ((1 ≤ length rest) × (is_blank (get_or rest 0 0) ≡ true)) → number_from value count rest ≡ at_end value count rest
ends_at value count [] h = refl
ends_at value count (b ∷ bs) (inl none) = absurd (omega arith)
ends_at value count (b ∷ bs) (inr blank) = rw blank.1 refl

pub none_at : (value count : ℕ) (rest bs : List ℕ) → count ≡ 0 → number_from value count rest ≡ number_from 0 0 bs → number_from value count rest ≡ at_end value count rest → number_of (field_of bs) ≡ None
none_at value count rest bs zero reads at = is_none bs (sym reads ∙ at ∙ rw zero refl)

pub some_at : (value count : ℕ) (rest bs : List ℕ) → (count ≡ 0 → ⊥) → number_from value count rest ≡ number_from 0 0 bs → number_from value count rest ≡ at_end value count rest → (number_of (field_of bs) ≡ Some value) × (rest ≡ after_field bs)
some_at value count rest bs some reads at =
    let more : 1 ≤ count = omega (arith, some) in
    let shown : nat_le 1 count ≡ true = grind (arith, nat_tests) in
    is_some bs value rest (sym reads ∙ at ∙ rw shown refl)
