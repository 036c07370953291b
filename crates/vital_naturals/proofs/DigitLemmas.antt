-- Digits, that of the ones first, and the numbers that they write.
use Rattle.std.proofs.Common.{◌≡◌, ℕ, zero, suc, ◌+◌, ◌*◌, ◌/◌, ◌%◌, ◌^◌, ◌<◌, ◌≤◌, List, [], ◌∷◌, ◌++◌, length, take, drop, get_or, refl, sym, ap, subst, ◌∙◌, arith}
use Rattle.std.proofs.Math.Nat.{pow-suc, pow-zero, mul-le-mul_left}
use Rattle.vital_naturals.specs.Digits.{AreDigits, value}

-- the digits of a list
pub first-digit : (d : ℕ) (ds : List ℕ) → AreDigits (d ∷ ds) → d < 10
first-digit d ds h = h 0 0 (omega arith)

pub other-digits : (d : ℕ) (ds : List ℕ) → AreDigits (d ∷ ds) → AreDigits ds
other-digits d ds h = λ k e lt. h (suc k) e (omega (arith, lt))

-- ten to one more
pub pow-more : (k n : ℕ) → 10 ^ (k + 1) * n ≡ 10 * (10 ^ k * n)
pow-more k n =
    let one : 10 ^ (k + 1) ≡ 10 ^ suc k = ap (λ m. 10 ^ m) (omega arith) in
    let more = ap (λ p. p * n) (one ∙ pow-suc 10 k) in
    omega (arith, more)

-- one more digit at the end
pub value_push : (ds : List ℕ) (d : ℕ) → value (ds ++ d ∷ []) ≡ value ds + 10 ^ length ds * d
value_push [] d = omega (arith, pow-zero 10)
value_push (e ∷ es) d =
    let more = ap (λ p. p * d) (pow-suc 10 (length es)) in
    omega (arith, value_push es d, more)

-- the digits up to a place, and then that at it
pub value_take : (ds : List ℕ) (p : ℕ) → value (take (suc p) ds) ≡ value (take p ds) + 10 ^ p * get_or ds p 0
value_take [] zero = omega arith
value_take [] (suc p) = omega arith
value_take (d ∷ ds) zero = omega (arith, pow-zero 10)
value_take (d ∷ ds) (suc p) =
    let more = ap (λ q. q * get_or ds p 0) (pow-suc 10 p) in
    omega (arith, value_take ds p, more)

-- those from a place on: that at it, and then the others
pub value_drop : (ds : List ℕ) (p : ℕ) → value (drop p ds) ≡ get_or ds p 0 + 10 * value (drop (suc p) ds)
value_drop [] zero = omega arith
value_drop [] (suc p) = omega arith
value_drop (d ∷ ds) zero = refl
value_drop (d ∷ ds) (suc p) = value_drop ds p

-- all digits are those up to a place and those behind it
pub value_split : (ds : List ℕ) (p : ℕ) → value ds ≡ value (take p ds) + 10 ^ p * value (drop p ds)
value_split ds zero = omega (arith, pow-zero 10)
value_split [] (suc p) = omega arith
value_split (d ∷ ds) (suc p) =
    let more = ap (λ q. q * value (drop p ds)) (pow-suc 10 p) in
    omega (arith, value_split ds p, more)

-- so many digits write less than ten to that
pub value_below : (ds : List ℕ) → AreDigits ds → value ds < 10 ^ length ds
value_below [] h = omega (arith, pow-zero 10)
value_below (d ∷ ds) h = omega (arith, value_below ds (other-digits d ds h), first-digit d ds h, pow-suc 10 (length ds))

pub value_take_below : (ds : List ℕ) (p : ℕ) → AreDigits ds → value (take p ds) < 10 ^ p
value_take_below ds zero h = omega (arith, pow-zero 10)
value_take_below [] (suc p) h = omega (arith, value_take_below [] p h, pow-suc 10 p)
value_take_below (d ∷ ds) (suc p) h = omega (arith, value_take_below ds p (other-digits d ds h), first-digit d ds h, pow-suc 10 p)

-- the first place from the left at which numbers differ decides
pub less_from : (ds es : List ℕ) (p : ℕ) → AreDigits ds → value (drop p ds) < value (drop p es) → value ds < value es
less_from ds es p h less =
    let more : 10 ^ p * (value (drop p ds) + 1) ≤ 10 ^ p * value (drop p es) = mul-le-mul_left (10 ^ p) (omega arith) in
    omega (arith, more, value_split ds p, value_split es p, value_take_below ds p h)

-- ---- one place after another

next-place : (ds : List ℕ) (p d : ℕ) → d ≡ get_or ds p 0 → value (take (p + 1) ds) ≡ value (take p ds) + 10 ^ p * d
next-place ds p d is =
    let one : p + 1 ≡ suc p = omega arith in
    ap (λ k. value (take k ds)) one ∙ value_take ds p ∙ ap (λ n. value (take p ds) + 10 ^ p * n) (sym is)

pushed : (ds : List ℕ) (p d : ℕ) → length ds ≡ p → value (ds ++ d ∷ []) ≡ value ds + 10 ^ p * d
pushed ds p d len = value_push ds d ∙ ap (λ k. value ds + 10 ^ k * d) len

-- digits are added at a place
pub digits_added : (sum first second : List ℕ) (p carry a b : ℕ) → length sum ≡ p → value sum + 10 ^ p * carry ≡ value (take p first) + value (take p second) → a ≡ get_or first p 0 → b ≡ get_or second p 0 → value (sum ++ ((a + b + carry) % 10) ∷ []) + 10 ^ (p + 1) * ((a + b + carry) / 10) ≡ value (take (p + 1) first) + value (take (p + 1) second)
digits_added sum first second p carry a b len h at bt =
    let d : ℕ = (a + b + carry) % 10 in
    let q : ℕ = (a + b + carry) / 10 in
    let split : 10 ^ p * (d + 10 * q) ≡ 10 ^ p * (a + b + carry) = ap (λ n. 10 ^ p * n) (omega arith) in
    omega (arith, h, split, pushed sum p d len, next-place first p a at, next-place second p b bt, pow-more p q)

-- a digit is taken from another one at a place
pub digit_taken : (left upper lower : List ℕ) (p borrowed u l d ten : ℕ) → length left ≡ p → value left + value (take p lower) ≡ value (take p upper) + 10 ^ p * borrowed → u ≡ get_or upper p 0 → l ≡ get_or lower p 0 → d + (l + borrowed) ≡ u + 10 * ten → value (left ++ d ∷ []) + value (take (p + 1) lower) ≡ value (take (p + 1) upper) + 10 ^ (p + 1) * ten
digit_taken left upper lower p borrowed u l d ten len h ut lt is =
    let split : 10 ^ p * (d + (l + borrowed)) ≡ 10 ^ p * (u + 10 * ten) = ap (λ n. 10 ^ p * n) is in
    omega (arith, h, split, pushed left p d len, next-place upper p u ut, next-place lower p l lt, pow-more p ten)

-- all digits
pub take_whole : (ds : List ℕ) (w : ℕ) → length ds ≤ w → value (take w ds) ≡ value ds
take_whole [] zero h = refl
take_whole [] (suc w) h = refl
take_whole (d ∷ ds) zero h = absurd (omega arith)
take_whole (d ∷ ds) (suc w) h = ap (λ n. d + 10 * n) (take_whole ds w (omega arith))

pub drop_whole : (ds : List ℕ) (w : ℕ) → length ds ≤ w → value (drop w ds) ≡ 0
drop_whole [] zero h = refl
drop_whole [] (suc w) h = refl
drop_whole (d ∷ ds) zero h = absurd (omega arith)
drop_whole (d ∷ ds) (suc w) h = drop_whole ds w (omega arith)

-- nothing is borrowed in the end from a number that is not less
pub none_borrowed : (left upper lower : List ℕ) (w borrowed : ℕ) → AreDigits left → length left ≡ w → value left + value lower ≡ value upper + 10 ^ w * borrowed → value lower ≤ value upper → borrowed ≤ 1 → borrowed ≡ 0
none_borrowed left upper lower w zero ds len h le small = refl
none_borrowed left upper lower w (suc b) ds len h le small =
    let below : value left < 10 ^ w = (let P : ℕ → Type 0 = λ k. value left < 10 ^ k in subst P len (value_below left ds)) in
    let one : 10 ^ w * suc b ≡ 10 ^ w * 1 = ap (λ n. 10 ^ w * n) (omega arith) in
    absurd (omega (arith, below, h, one))

-- the last digits, and what is carried, are those of a sum
pub summed : (sum first second : List ℕ) (w carry : ℕ) → length first ≤ w → length second ≤ w → value sum + 10 ^ w * carry ≡ value (take w first) + value (take w second) → carry ≤ 0 → value sum ≡ value first + value second
summed sum first second w carry lf ls h none =
    let is : carry ≡ 0 = omega arith in
    let zero : 10 ^ w * carry ≡ 10 ^ w * 0 = ap (λ n. 10 ^ w * n) is in
    omega (arith, h, zero, take_whole first w lf, take_whole second w ls)

pub summed_with : (sum whole first second : List ℕ) (w carry : ℕ) → length first ≤ w → length second ≤ w → value sum + 10 ^ w * carry ≡ value (take w first) + value (take w second) → length sum ≡ w → whole ≡ sum ++ carry ∷ [] → value whole ≡ value first + value second
summed_with sum whole first second w carry lf ls h len is =
    omega (arith, h, ap value is, pushed sum w carry len, take_whole first w lf, take_whole second w ls)

-- and what is left is a difference, where nothing is borrowed
pub taken : (left upper lower : List ℕ) (w borrowed : ℕ) → length upper ≤ w → length lower ≤ w → value left + value (take w lower) ≡ value (take w upper) + 10 ^ w * borrowed → AreDigits left → length left ≡ w → value lower ≤ value upper → borrowed ≤ 1 → value left + value lower ≡ value upper
taken left upper lower w borrowed lu ll h ds len le small =
    let whole : value left + value lower ≡ value upper + 10 ^ w * borrowed = omega (arith, h, take_whole upper w lu, take_whole lower w ll) in
    let none = none_borrowed left upper lower w borrowed ds len whole le small in
    let zero : 10 ^ w * borrowed ≡ 10 ^ w * 0 = ap (λ n. 10 ^ w * n) none in
    omega (arith, whole, zero)

-- ---- one more digit

one-digit : (d : ℕ) → d < 10 → AreDigits (d ∷ [])
one-digit d small zero e lt = small
one-digit d small (suc k) e lt = absurd (omega (arith, lt))

push-digits : (ds : List ℕ) (d : ℕ) → AreDigits ds → d < 10 → AreDigits (ds ++ d ∷ [])
push-digits [] d h small k e lt = one-digit d small k e lt
push-digits (x ∷ xs) d h small zero e lt = first-digit x xs h
push-digits (x ∷ xs) d h small (suc k) e lt = push-digits xs d (other-digits x xs h) small k e (omega (arith, lt))

-- one digit less
pub digits_before : (ds : List ℕ) (d : ℕ) → AreDigits (ds ++ d ∷ []) → AreDigits ds
digits_before [] d h k e lt = absurd (omega (arith, lt))
digits_before (x ∷ xs) d h zero e lt = first-digit x (xs ++ d ∷ []) h
digits_before (x ∷ xs) d h (suc k) e lt = digits_before xs d (other-digits x (xs ++ d ∷ []) h) k e (omega (arith, lt))

pub digits_pushed : (ds new : List ℕ) (d : ℕ) → AreDigits ds → d < 10 → new ≡ ds ++ d ∷ [] → AreDigits new
digits_pushed ds new d h small is = subst AreDigits (sym is) (push-digits ds d h small)

-- digits write at least what those behind some of them do
pub drop_least : (ds : List ℕ) (p : ℕ) → value (drop p ds) ≤ value ds
drop_least ds zero = omega arith
drop_least [] (suc p) = omega arith
drop_least (d ∷ ds) (suc p) = let rest = drop_least ds p in omega (arith, rest)
