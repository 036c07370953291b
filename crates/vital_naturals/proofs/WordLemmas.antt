-- Numbers that fit a machine word: their digits, their literals and their numerals.
use Rattle.std.proofs.Common.{◌≡◌, ℕ, zero, suc, ◌+◌, ◌-◌, ◌*◌, ◌/◌, ◌%◌, ◌^◌, ◌<◌, ◌≤◌, true, false, List, [], ◌∷◌, ◌++◌, length, filter, map, take, drop, get_or, refl, sym, ap, subst, ◌∙◌, arith}
use Rattle.std.specs.Char.{digit_value, is_ascii_digit}
use Rattle.std.specs.Fmt.{decimal}
use Rattle.std.specs.Int.Digits.{digits_of}
use Rattle.std.specs.Str.Parse.{digits_value, digits_value_after}
use Rattle.std.proofs.Math.ListN.{set}
use Rattle.std.proofs.lemmas.Fmt.{decimal_by_steps}
use Rattle.std.proofs.lemmas.Int.Digits.{digits_of_step}
use Rattle.std.proofs.lemmas.List.{length-take, take-append-drop, take_more, take_more_set}
use Rattle.std.proofs.lemmas.List.Elements.{filter-append}
use Rattle.vital_naturals.proofs.DigitLemmas.{digits_pushed, pow-more, value_push}
use Rattle.vital_naturals.proofs.LiteralLemmas.{last-digit, no-digit}
use Rattle.vital_naturals.proofs.NumeralLemmas.{map-push, numeral-of-some}
use Rattle.vital_naturals.specs.Digits.{AreDigits, value}
use Rattle.vital_naturals.specs.Numerals.{number, numeral}

-- ---- digits

-- the last digit of a word is put at a place
pub digit_placed : (ds : List ℕ) (p rest word : ℕ) → p < length ds → value (take p ds) + 10 ^ p * rest ≡ word → value (take (p + 1) (set ds p (rest % 10))) + 10 ^ (p + 1) * (rest / 10) ≡ word
digit_placed ds p rest word lt h =
    let more : value (take (p + 1) (set ds p (rest % 10))) ≡ value (take p ds) + 10 ^ length (take p ds) * (rest % 10) =
    ap value (take_more_set ds p (rest % 10) lt) ∙ value_push (take p ds) (rest % 10) in
    let long : 10 ^ length (take p ds) * (rest % 10) ≡ 10 ^ p * (rest % 10) = ap (λ n. 10 ^ n * (rest % 10)) (omega (arith, length-take p ds)) in
    let split : 10 ^ p * rest ≡ 10 ^ p * (10 * (rest / 10) + rest % 10) = ap (λ n. 10 ^ p * n) (omega arith) in
    omega (arith, more, long, split, h, pow-more p (rest / 10))

pub digits_placed : (ds : List ℕ) (p d : ℕ) → p < length ds → d < 10 → AreDigits (take p ds) → AreDigits (take (p + 1) (set ds p d))
digits_placed ds p d lt small h = digits_pushed (take p ds) _ d h small (take_more_set ds p d lt)

-- ---- literals from the left

after-append : (n : ℕ) (xs ys : List ℕ) → digits_value_after 10 n (xs ++ ys) ≡ digits_value_after 10 (digits_value_after 10 n xs) ys
after-append n [] ys = refl
after-append n (x ∷ xs) ys = after-append (n * 10 + digit_value x) xs ys

-- more digits make no number less
after-ge : (n : ℕ) (xs : List ℕ) → n ≤ digits_value_after 10 n xs
after-ge n [] = omega arith
after-ge n (x ∷ xs) = omega (arith, after-ge (n * 10 + digit_value x) xs)

number-append : (xs ys : List ℕ) → number xs ≤ number (xs ++ ys)
number-append xs ys =
    let whole : number (xs ++ ys) ≡ digits_value_after 10 (number xs) (filter is_ascii_digit ys) =
    ap (digits_value 10) (filter-append is_ascii_digit xs ys) ∙ after-append 0 (filter is_ascii_digit xs) (filter is_ascii_digit ys) in
    omega (arith, whole, after-ge (number xs) (filter is_ascii_digit ys))

-- no part of a literal from its left writes more than all of it
number-take : (bs : List ℕ) (i : ℕ) → number (take i bs) ≤ number bs
number-take bs i = subst (λ (xs : List ℕ). number (take i bs) ≤ number xs) (take-append-drop i bs) (number-append (take i bs) (drop i bs))

-- a digit is read behind the others
pub digit_read : (bs : List ℕ) (i word : ℕ) → i < length bs → is_ascii_digit (get_or bs i 0) ≡ true → word ≡ number (take i bs) → word * 10 + (get_or bs i 0 - 48) ≡ number (take (i + 1) bs)
digit_read bs i word lt digit h =
    ap (λ n. n * 10 + (get_or bs i 0 - 48)) h
    ∙ sym (last-digit (take (i + 1) bs) (take i bs) (get_or bs i 0) (take_more bs i 0 lt) digit)

-- what is no digit is passed over
pub byte_read : (bs : List ℕ) (i word : ℕ) → i < length bs → is_ascii_digit (get_or bs i 0) ≡ false → word ≡ number (take i bs) → word ≡ number (take (i + 1) bs)
byte_read bs i word lt other h = h ∙ sym (no-digit (take (i + 1) bs) (take i bs) (get_or bs i 0) (take_more bs i 0 lt) other)

-- what its first digits write is too great already
pub too_great : (bs : List ℕ) (i word n : ℕ) → i < length bs → is_ascii_digit (get_or bs i 0) ≡ true → word ≡ number (take i bs) → n ≤ word * 10 + (get_or bs i 0 - 48) → n ≤ number bs
too_great bs i word n lt digit h great = omega (arith, digit_read bs i word lt digit h, great, number-take bs (i + 1))

-- ---- numerals

-- all digits but that of the ones stand before it
numeral-more : (n : ℕ) → 10 ≤ n → numeral n ≡ numeral (n / 10) ++ (48 + n % 10) ∷ []
numeral-more n some =
    numeral-of-some n (omega arith)
    ∙ ap (map (λ d. 48 + d)) (digits_of_step 10 n (omega arith) (omega arith))
    ∙ map-push (λ d. 48 + d) (digits_of 10 (n / 10)) (n % 10)
    ∙ ap (λ ds. ds ++ (48 + n % 10) ∷ []) (sym (numeral-of-some (n / 10) (omega arith)))

digits-of-one : (n : ℕ) → 0 < n → n < 10 → digits_of 10 n ≡ n ∷ []
digits-of-one n some h =
    let tens : n / 10 ≡ 0 = omega arith in
    let ones : n % 10 ≡ n = omega arith in
    digits_of_step 10 n (omega arith) some ∙ (λ i. digits_of 10 (tens i) ++ (ones i ∷ []))

one-digit : (n : ℕ) → n < 10 → (48 + n) ∷ [] ≡ numeral n
one-digit zero h = refl
one-digit (suc n) h = sym (numeral-of-some (suc n) (omega arith) ∙ ap (map (λ d. 48 + d)) (digits-of-one (suc n) (omega arith) h))

-- what std prints of a word is its numeral
pub numeral_of_decimal : (n : ℕ) → n < 2 ^ 64 → decimal n ≡ numeral n
numeral_of_decimal n fits =
    let P : ℕ → List ℕ → Type 0 = λ n ds. ds ≡ numeral n in
    decimal_by_steps P one-digit (λ n ds some is. ap (λ es. es ++ (48 + n % 10) ∷ []) is ∙ sym (numeral-more n some)) n fits
