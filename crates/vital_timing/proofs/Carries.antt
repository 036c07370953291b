-- Numbers of digits in two parts, and what is carried over the digits behind a point.
use Rattle.std.proofs.Common.{◌≡◌, ℕ, zero, suc, ◌+◌, ◌-◌, ◌*◌, ◌/◌, ◌^◌, ◌≤◌, ◌<◌, min, Bool, true, false, cond, List, [], ◌∷◌, ◌++◌, length, get_or, take, drop, position, Option, Some, None, refl, ap, sym, ◌∙◌, arith, rules, add-one, if◌then◌else◌}
use Rattle.std.proofs.Math.Nat.{div-div-eq-div-mul, mul-add-div_right, mul-le-mul_right, pow-suc}
use Rattle.std.proofs.Math.Seq.{drop-cons}
use Rattle.std.proofs.lemmas.List.{append-nil, take-append-drop}
use Rattle.std.proofs.lemmas.List.Elements.{filter-append}
use Rattle.std.proofs.lemmas.List.Quantifiers.{position-Some}
use Rattle.std.proofs.lemmas.Str.{digit_value_digit}
use Rattle.std.proofs.Math.Nat.{mul_comm}
use Rattle.std.proofs.Common.{◌⊎◌, inl, inr}
use Rattle.std.proofs.lemmas.Bool.{le-leb}
use Rattle.std.proofs.lemmas.List.{take_more}
use Rattle.std.proofs.lemmas.Bool.Decides.{nat_tests}
use Rattle.std.proofs.lemmas.Int.Digits.{digits_value_push}
use Rattle.std.specs.Prelude.{nat_le}
use Rattle.std.specs.Option.{option_map_or}
use Rattle.std.specs.Char.{digit_value, is_ascii_digit}
use Rattle.std.specs.Str.Parse.{digits_value, digits_value_after}
use Rattle.vital_timing.specs.declared.time_literal.UnitOfTime.{UnitOfTime}
use Rattle.vital_timing.specs.declared.time_literal.UnitOfTime.TheVariants.{Femtosecond, Picosecond, Nanosecond, Microsecond, Millisecond, Second, Minute, Hour}
use Rattle.vital_timing.specs.TimeLiterals.{before_point, behind_point, carried, digits_of, femtoseconds, is_point}

pub digit-worth : (b : ℕ) → is_ascii_digit b ≡ true → digit_value b ≡ b - 48
digit-worth b is = let e : digit_value b + 48 ≡ b = digit_value_digit b (search rules) in omega arith

pub power-pos : (n : ℕ) → 0 < 10 ^ n
power-pos zero = omega arith
power-pos (suc n) = omega (arith, pow-suc 10 n, power-pos n)

split-step : (n d p v : ℕ) → (n * 10 + d) * p + v ≡ n * (p * 10) + ((0 + d) * p + v)
split-step n d p v = grind arith

pub after-splits : (n : ℕ) (ds : List ℕ) → digits_value_after 10 n ds ≡ n * 10 ^ length ds + digits_value_after 10 0 ds
after-splits n [] = omega arith
after-splits n (d ∷ ds) =
    after-splits (n * 10 + digit_value d) ds
    ∙ split-step n (digit_value d) (10 ^ length ds) (digits_value_after 10 0 ds)
    ∙ ap (λ v. n * (10 ^ length ds * 10) + v) (sym (after-splits (0 + digit_value d) ds))
    ∙ ap (λ p. n * p + digits_value_after 10 (0 + digit_value d) ds) (sym (pow-suc 10 (length ds)))

after-append : (n : ℕ) (ds es : List ℕ) → digits_value_after 10 n (ds ++ es) ≡ digits_value_after 10 (digits_value_after 10 n ds) es
after-append n [] es = refl
after-append n (d ∷ ds) es = after-append (n * 10 + digit_value d) ds es

pub carried-append : (worth carry : ℕ) (xs ys : List ℕ) → carried worth (xs ++ ys) carry ≡ carried worth xs (carried worth ys carry)
carried-append worth carry [] ys = refl
carried-append worth carry (b ∷ bs) ys = rw (carried-append worth carry bs ys)

-- A digit takes a tenth of what stands behind it.
regroup : (d worth p v : ℕ) → (d * worth) * p + v * worth ≡ (d * p + v) * worth
regroup d worth p v = grind arith

tenth : (d worth p v : ℕ) → 0 < p → (d * worth + (v * worth) / p) / 10 ≡ ((d * p + v) * worth) / (p * 10)
tenth d worth p v some =
    ap (λ n. n / 10) (sym (mul-add-div_right some (d * worth) (v * worth)))
    ∙ div-div-eq-div-mul ((d * worth) * p + v * worth) p 10
    ∙ ap (λ n. n / (p * 10)) (regroup d worth p v)

exact : List ℕ → ℕ → ℕ
exact ds worth = (digits_value 10 ds * worth) / 10 ^ length ds

exact-digit : (b worth : ℕ) (ds : List ℕ) → digit_value b ≡ b - 48 → ((b - 48) * worth + exact ds worth) / 10 ≡ exact (b ∷ ds) worth
unfolding exact
exact-digit b worth ds is =
    tenth (b - 48) worth (10 ^ length ds) (digits_value 10 ds) (power-pos (length ds))
    ∙ ap (λ d. ((d * 10 ^ length ds + digits_value 10 ds) * worth) / (10 ^ length ds * 10)) (sym is ∙ omega arith)
    ∙ ap (λ v. (v * worth) / (10 ^ length ds * 10)) (sym (after-splits (0 + digit_value b) ds))
    ∙ ap (λ p. (digits_value_after 10 (0 + digit_value b) ds * worth) / p) (sym (pow-suc 10 (length ds)))

exact-step : (t : Bool) (b worth carry : ℕ) (ds : List ℕ) → (t ≡ true → digit_value b ≡ b - 48) → carry ≡ exact ds worth → (if t then ((b - 48) * worth + carry) / 10 else carry) ≡ exact (cond t (b ∷ ds) ds) worth
exact-step true b worth carry ds is so = ap (λ c. ((b - 48) * worth + c) / 10) so ∙ exact-digit b worth ds (is refl)
exact-step false b worth carry ds is so = so

exact-carried : (worth : ℕ) (bs : List ℕ) → carried worth bs 0 ≡ exact (digits_of bs) worth
unfolding exact
exact-carried worth [] = omega arith
exact-carried worth (b ∷ bs) = exact-step (is_ascii_digit b) b worth (carried worth bs 0) (digits_of bs) (digit-worth b) (exact-carried worth bs)

pub carried-exact : (worth : ℕ) (bs : List ℕ) → carried worth bs 0 ≡ (digits_value 10 (digits_of bs) * worth) / 10 ^ length (digits_of bs)
unfolding exact
carried-exact worth bs = exact-carried worth bs

-- a digit, and no more than its worth carried to it, is no more than ten times its worth
pub digit-carry : (b worth carry : ℕ) → b ≤ 57 → carry ≤ worth → (b - 48) * worth + carry ≤ 10 * worth
digit-carry b worth carry h small = let k : (b - 48) * worth ≤ 9 * worth = mul-le-mul_right worth (omega arith) in omega arith

point-is : (b : ℕ) → is_point b ≡ true → b ≡ 46
point-is b is = grind (arith, nat_tests)

no-digit : (b : ℕ) (bs : List ℕ) → b ≡ 46 → digits_of (b ∷ bs) ≡ digits_of bs
no-digit b bs is = rw is

splits-at : (number : List ℕ) (at : ℕ) → at < length number → is_point (get_or number at 0) ≡ true → digits_of number ≡ digits_of (take at number) ++ digits_of (drop (at + 1) number)
splits-at number at h is =
    ap digits_of (sym (take-append-drop at number))
    ∙ filter-append is_ascii_digit (take at number) (drop at number)
    ∙ ap (λ bs. digits_of (take at number) ++ digits_of bs) (drop-cons number at 0 h)
    ∙ ap (λ bs. digits_of (take at number) ++ bs) (no-digit (get_or number at 0) (drop (suc at) number) (point-is (get_or number at 0) is))
    ∙ ap (λ n. digits_of (take at number) ++ digits_of (drop n number)) (sym (add-one at))

abbrev before : List ℕ → Option ℕ → List ℕ
before number o = option_map_or (λ at. take at number) o number

abbrev behind : List ℕ → Option ℕ → List ℕ
behind number o = option_map_or (λ at. drop (at + 1) number) o []

splits-by : (number : List ℕ) (o : Option ℕ) → ((at : ℕ) → o ≡ Some at → (at < length number) × (is_point (get_or number at 0) ≡ true)) → digits_of number ≡ digits_of (before number o) ++ digits_of (behind number o)
splits-by number None found = sym (append-nil (digits_of number))
splits-by number (Some at) found = splits-at number at (found at refl).0 (found at refl).1

found-at : (number : List ℕ) (at : ℕ) → position is_point number ≡ Some at → (at < length number) × (is_point (get_or number at 0) ≡ true)
found-at number at is = let p = position-Some is_point number at 0 is in (p.0, p.1)

pub point-splits : (number : List ℕ) → digits_of number ≡ digits_of (before_point number) ++ digits_of (behind_point number)
point-splits number = splits-by number (position is_point number) (found-at number)

-- Where one is worth something, a number at the cap is above the greatest delay, and one below the cap is itself.
abbrev cap : ℕ
cap = 1_125_899_906_842_625

cases : (w : ℕ) → (min w cap ≡ w) ⊎ ((min w cap ≡ cap) × (cap ≤ w))
cases w = search (rules, arith)

pub capped-below : (w worth f : ℕ) → min w cap * worth + f < cap → 0 < worth → w * worth + f ≡ min w cap * worth + f
capped-below w worth f h some = elim (cases w) as (λ z. w * worth + f ≡ min w cap * worth + f) [
  | inl e ↦ ap (λ v. v * worth + f) (sym e)
  | inr e ↦ absurd (let k : 1 * cap ≤ worth * cap = mul-le-mul_right cap some in omega (arith, ap (λ v. v * worth + f) e.0, mul_comm worth cap))
]

pub capped-above : (w worth f : ℕ) → cap ≤ min w cap * worth + f → cap ≤ w * worth + f
capped-above w worth f h = let k : min w cap * worth ≤ w * worth = mul-le-mul_right worth (omega arith) in omega arith

pub capped-next : (v d : ℕ) → min (min v cap * 10 + d) cap ≡ min (v * 10 + d) cap
capped-next v d = omega arith

if-true : {A : Type 0} (t : Bool) (x y : A) → t ≡ true → (if t then x else y) ≡ x
if-true true x y is = refl
if-true false x y is = cc

if-false : {A : Type 0} (t : Bool) (x y : A) → t ≡ false → (if t then x else y) ≡ y
if-false true x y is = cc
if-false false x y is = refl

digit-le : (b : ℕ) → is_ascii_digit b ≡ true → b ≤ 57
digit-le b is = grind (arith, nat_tests)

-- the last byte is taken
pub taken-digit : (worth carry last r : ℕ) (rest front : List ℕ) → rest ≡ front ++ last ∷ [] → is_ascii_digit last ≡ true → carried worth rest carry ≡ r → carried worth front (((last - 48) * worth + carry) / 10) ≡ r
taken-digit worth carry last r rest front is digit so =
    ap (carried worth front) (sym (if-true (is_ascii_digit last) (((last - 48) * worth + carry) / 10) carry digit))
    ∙ sym (carried-append worth carry front (last ∷ []))
    ∙ ap (λ bs. carried worth bs carry) (sym is)
    ∙ so

pub taken-other : (worth carry last r : ℕ) (rest front : List ℕ) → rest ≡ front ++ last ∷ [] → is_ascii_digit last ≡ false → carried worth rest carry ≡ r → carried worth front carry ≡ r
taken-other worth carry last r rest front is digit so =
    ap (carried worth front) (sym (if-false (is_ascii_digit last) (((last - 48) * worth + carry) / 10) carry digit))
    ∙ sym (carried-append worth carry front (last ∷ []))
    ∙ ap (λ bs. carried worth bs carry) (sym is)
    ∙ so

pub taken-small : (worth carry last : ℕ) → is_ascii_digit last ≡ true → carry ≤ worth → ((last - 48) * worth + carry) / 10 ≤ worth
taken-small worth carry last digit small = omega (arith, digit-carry last worth carry (digit-le last digit) small)

-- one more byte of a whole number
number-step : (t : Bool) (v b : ℕ) (ds : List ℕ) → (t ≡ true → digit_value b ≡ b - 48) → v ≡ min (digits_value 10 ds) cap → (if t then min (v * 10 + (b - 48)) cap else v) ≡ min (digits_value 10 (ds ++ cond t (b ∷ []) [])) cap
number-step true v b ds is so =
    ap (λ n. min (n * 10 + (b - 48)) cap) so
    ∙ capped-next (digits_value 10 ds) (b - 48)
    ∙ ap (λ d. min (digits_value 10 ds * 10 + d) cap) (sym (is refl))
    ∙ ap (λ n. min n cap) (sym (digits_value_push 10 ds b))
number-step false v b ds is so = so ∙ ap (λ es. min (digits_value 10 es) cap) (sym (append-nil ds))

pub taken-byte : (v : ℕ) (bytes : List ℕ) (i : ℕ) → i < length bytes → v ≡ min (digits_value 10 (digits_of (take i bytes))) cap → (if is_ascii_digit (get_or bytes i 0) then min (v * 10 + (get_or bytes i 0 - 48)) cap else v) ≡ min (digits_value 10 (digits_of (take (i + 1) bytes))) cap
taken-byte v bytes i h so =
    number-step (is_ascii_digit (get_or bytes i 0)) v (get_or bytes i 0) (digits_of (take i bytes)) (digit-worth (get_or bytes i 0)) so
    ∙ ap (λ ds. min (digits_value 10 ds) cap) (sym (filter-append is_ascii_digit (take i bytes) (get_or bytes i 0 ∷ [])))
    ∙ ap (λ bs. min (digits_value 10 (digits_of bs)) cap) (sym (take_more bytes i 0 h))

-- the worth of a literal: that of its whole number, and what its fraction is worth
worth-of-two : (worth : ℕ) (ds bs : List ℕ) → (digits_value 10 (ds ++ bs) * worth) / 10 ^ length bs ≡ digits_value 10 ds * worth + (digits_value 10 bs * worth) / 10 ^ length bs
worth-of-two worth ds bs =
    ap (λ v. (v * worth) / 10 ^ length bs) (after-append 0 ds bs ∙ after-splits (digits_value 10 ds) bs)
    ∙ ap (λ v. v / 10 ^ length bs) (sym (regroup (digits_value 10 ds) worth (10 ^ length bs) (digits_value 10 bs)))
    ∙ mul-add-div_right (power-pos (length bs)) (digits_value 10 ds * worth) (digits_value 10 bs * worth)

pub literal-worth : (worth : ℕ) (number : List ℕ) → (digits_value 10 (digits_of number) * worth) / 10 ^ length (digits_of (behind_point number)) ≡ digits_value 10 (digits_of (before_point number)) * worth + carried worth (behind_point number) 0
literal-worth worth number =
    ap (λ ds. (digits_value 10 ds * worth) / 10 ^ length (digits_of (behind_point number))) (point-splits number)
    ∙ worth-of-two worth (digits_of (before_point number)) (digits_of (behind_point number))
    ∙ ap (λ n. digits_value 10 (digits_of (before_point number)) * worth + n) (sym (carried-exact worth (behind_point number)))

above : (exact : ℕ) → cap ≤ exact → nat_le exact 1_125_899_906_842_624 ≡ false
above exact h = grind (arith, nat_tests)

-- a time that is small enough, and one that is not
some-time : (t exact : ℕ) → exact ≡ t → t < cap → Some t ≡ (if nat_le exact 1_125_899_906_842_624 then Some exact else None)
some-time t exact is h = sym (if-true (nat_le exact 1_125_899_906_842_624) (Some exact) None (le-leb exact 1_125_899_906_842_624 (omega arith)) ∙ ap (λ n. Some n) is)

no-time : (exact : ℕ) → cap ≤ exact → None ≡ (if nat_le exact 1_125_899_906_842_624 then Some exact else None)
no-time exact h = sym (if-false (nat_le exact 1_125_899_906_842_624) (Some exact) None (above exact h))

pub small-literal : (worth : ℕ) (number : List ℕ) (time : ℕ) → 0 < worth → time ≡ min (digits_value 10 (digits_of (before_point number))) cap * worth + carried worth (behind_point number) 0 → time < cap → Some time ≡ (let exact = (digits_value 10 (digits_of number) * worth) / 10 ^ length (digits_of (behind_point number)) in if nat_le exact 1_125_899_906_842_624 then Some exact else None)
small-literal worth number time some is h =
    let w = digits_value 10 (digits_of (before_point number)) in
    let f = carried worth (behind_point number) 0 in
    some-time time _ (literal-worth worth number ∙ capped-below w worth f (omega (arith, is, h)) some ∙ sym is) h

pub great-literal : (worth : ℕ) (number : List ℕ) (time : ℕ) → time ≡ min (digits_value 10 (digits_of (before_point number))) cap * worth + carried worth (behind_point number) 0 → cap ≤ time → None ≡ (let exact = (digits_value 10 (digits_of number) * worth) / 10 ^ length (digits_of (behind_point number)) in if nat_le exact 1_125_899_906_842_624 then Some exact else None)
great-literal worth number time is h =
    let w = digits_value 10 (digits_of (before_point number)) in
    let f = carried worth (behind_point number) 0 in
    no-time _ (omega (arith, literal-worth worth number, capped-above w worth f (omega (arith, is, h))))

pub worth-pos : (unit : UnitOfTime) → 0 < femtoseconds unit
worth-pos Femtosecond = omega arith
worth-pos Picosecond = omega arith
worth-pos Nanosecond = omega arith
worth-pos Microsecond = omega arith
worth-pos Millisecond = omega arith
worth-pos Second = omega arith
worth-pos Minute = omega arith
worth-pos Hour = omega arith

-- the time that is worked out
pub time-is : (n w f worth : ℕ) (front back number : List ℕ) → n ≡ min (digits_value 10 (digits_of front)) cap → w ≡ worth → f ≡ carried w back 0 → front ≡ before_point number → back ≡ behind_point number → n * w + f ≡ min (digits_value 10 (digits_of (before_point number))) cap * worth + carried worth (behind_point number) 0
time-is n w f worth front back number whole one fraction before behind =
    ap (λ m. m * w + f) (whole ∙ ap (λ bs. min (digits_value 10 (digits_of bs)) cap) before)
    ∙ ap (λ m. min (digits_value 10 (digits_of (before_point number))) cap * w + m) (fraction ∙ ap (λ bs. carried w bs 0) behind)
    ∙ ap (λ m. min (digits_value 10 (digits_of (before_point number))) cap * m + carried m (behind_point number) 0) one
