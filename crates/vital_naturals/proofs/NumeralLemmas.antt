-- Numerals of the numbers that digits write.
use Rattle.std.proofs.Common.{◌≡◌, ℕ, zero, suc, ◌+◌, ◌*◌, ◌/◌, ◌%◌, ◌<◌, List, [], ◌∷◌, ◌++◌, map, reverse, length, refl, sym, ap, ◌∙◌, arith}
use Rattle.std.specs.Int.Digits.{digits_of}
use Rattle.std.proofs.lemmas.Int.Digits.{digits_of_step}
use Rattle.std.proofs.lemmas.List.{length-reverse, reverse-append}
use Rattle.vital_naturals.proofs.DigitLemmas.{first-digit, other-digits}
use Rattle.vital_naturals.specs.Digits.{AreDigits, before, significant, value}
use Rattle.vital_naturals.specs.Numerals.{numeral}

-- one more digit of the ones
behind : (d n : ℕ) (es : List ℕ) → d < 10 → 0 < d + 10 * n → digits_of 10 n ≡ reverse es → digits_of 10 (d + 10 * n) ≡ reverse (d ∷ es)
behind d n es small some is =
    let tens : (d + 10 * n) / 10 ≡ n = omega arith in
    let ones : (d + 10 * n) % 10 ≡ d = omega arith in
    digits_of_step 10 (d + 10 * n) (omega arith) some
    ∙ (λ i. digits_of 10 (tens i) ++ (ones i ∷ []))
    ∙ ap (λ ds. ds ++ d ∷ []) is
    ∙ sym (reverse-append (d ∷ []) es)

-- a number with digits is not zero
some-digits : (n e : ℕ) (es : List ℕ) → digits_of 10 n ≡ reverse (e ∷ es) → 0 < n
some-digits zero e es is = absurd (omega (arith, ap length is, length-reverse (e ∷ es)))
some-digits (suc n) e es is = omega arith

behind-before : (d n : ℕ) (es : List ℕ) → d < 10 → value es ≡ n → digits_of 10 n ≡ reverse es → digits_of 10 (d + 10 * n) ≡ reverse (before d es)
behind-before zero n [] small v is = ap (digits_of 10) {x = 0 + 10 * n} {y = 0} (omega arith)
behind-before (suc d) n [] small v is = behind (suc d) n [] small (omega arith) is
behind-before zero n (e ∷ es) small v is = behind zero n (e ∷ es) small (omega (arith, some-digits n e es is)) is
behind-before (suc d) n (e ∷ es) small v is = behind (suc d) n (e ∷ es) small (omega arith) is

value-before : (d : ℕ) (es : List ℕ) → value (before d es) ≡ d + 10 * value es
value-before zero [] = omega arith
value-before (suc d) [] = omega arith
value-before zero (e ∷ es) = refl
value-before (suc d) (e ∷ es) = refl

-- without zeros behind the last other one digits write the same
pub value-significant : (ds : List ℕ) → value (significant ds) ≡ value ds
value-significant [] = refl
value-significant (d ∷ ds) = value-before d (significant ds) ∙ ap (λ n. d + 10 * n) (value-significant ds)

digits-of-value : (ds : List ℕ) → AreDigits ds → digits_of 10 (value ds) ≡ reverse (significant ds)
digits-of-value [] h = refl
digits-of-value (d ∷ ds) h = behind-before d (value ds) (significant ds) (first-digit d ds h) (value-significant ds) (digits-of-value ds (other-digits d ds h))

pub numeral-of-some : (n : ℕ) → 0 < n → numeral n ≡ map (λ d. 48 + d) (digits_of 10 n)
numeral-of-some zero h = absurd (omega arith)
numeral-of-some (suc n) h = refl

numeral-by : (n : ℕ) (es : List ℕ) → digits_of 10 n ≡ reverse es → 0 < length es → numeral n ≡ map (λ d. 48 + d) (reverse es)
numeral-by n [] is some = absurd (omega arith)
numeral-by n (e ∷ es) is some = numeral-of-some n (some-digits n e es is) ∙ ap (map (λ d. 48 + d)) is

none-there : (ds : List ℕ) → length ds ≡ 0 → ds ≡ []
none-there [] h = refl
none-there (d ∷ ds) h = absurd (omega (arith, h))

pub map-push : (f : ℕ → ℕ) (ds : List ℕ) (d : ℕ) → map f (ds ++ d ∷ []) ≡ map f ds ++ f d ∷ []
map-push f [] d = refl
map-push f (x ∷ xs) d = ap (λ ys. f x ∷ ys) (map-push f xs d)

pub reverse_map : (f : ℕ → ℕ) (ds : List ℕ) → reverse (map f ds) ≡ map f (reverse ds)
reverse_map f [] = refl
reverse_map f (d ∷ ds) =
    reverse-append (f d ∷ []) (map f ds)
    ∙ ap (λ ys. ys ++ f d ∷ []) (reverse_map f ds)
    ∙ sym (map-push f (reverse ds) d)
    ∙ ap (map f) (sym (reverse-append (d ∷ []) ds))

-- digits with a significant one are written from the right
pub numeral_of_digits : (ds : List ℕ) → AreDigits ds → 0 < length (significant ds) → numeral (value ds) ≡ map (λ d. 48 + d) (reverse (significant ds))
numeral_of_digits ds h some = numeral-by (value ds) (significant ds) (digits-of-value ds h) some

-- digits with none write zero
pub numeral_of_zeros : (ds : List ℕ) → length (significant ds) ≡ 0 → numeral (value ds) ≡ 48 ∷ []
numeral_of_zeros ds none = ap numeral (sym (value-significant ds) ∙ ap value (none-there (significant ds) none))

-- ---- from the right

-- a zero at the end counts for nothing
significant-zero : (ds : List ℕ) → significant (ds ++ 0 ∷ []) ≡ significant ds
significant-zero [] = refl
significant-zero (d ∷ ds) = ap (before d) (significant-zero ds)

before-some : (d e : ℕ) (es : List ℕ) → before d (e ∷ es) ≡ d ∷ e ∷ es
before-some zero e es = refl
before-some (suc d) e es = refl

-- another digit at the end makes all significant
significant-some : (ds : List ℕ) (e : ℕ) → significant (ds ++ suc e ∷ []) ≡ ds ++ suc e ∷ []
significant-some [] e = refl
significant-some (d ∷ []) e = before-some d (suc e) []
significant-some (d ∷ f ∷ ds) e = ap (before d) (significant-some (f ∷ ds) e) ∙ before-some d f (ds ++ suc e ∷ [])

pub zero_passed : (rest others : List ℕ) (last : ℕ) → rest ≡ others ++ last ∷ [] → last ≡ 0 → significant others ≡ significant rest
zero_passed rest others last is none = sym (ap significant (is ∙ ap (λ d. others ++ d ∷ []) none) ∙ significant-zero others)

ends-by : (others : List ℕ) (last : ℕ) → (last ≡ 0 → ⊥) → significant (others ++ last ∷ []) ≡ others ++ last ∷ []
ends-by others zero some = absurd (some refl)
ends-by others (suc e) some = significant-some others e

pub some_last : (rest others : List ℕ) (last : ℕ) → rest ≡ others ++ last ∷ [] → (last ≡ 0 → ⊥) → significant rest ≡ rest
some_last rest others last is some = ap significant is ∙ ends-by others last some ∙ sym is
