-- The last digits of literals.
use Rattle.std.proofs.Common.{◌≡◌, ℕ, ◌+◌, ◌-◌, ◌*◌, ◌^◌, ◌<◌, true, false, List, [], ◌∷◌, ◌++◌, filter, length, length-append, refl, sym, ap, ◌∙◌, arith}
use Rattle.std.specs.Prelude.{Bool, cond, nat_lt}
use Rattle.std.specs.Char.{digit_value, is_ascii_digit}
use Rattle.std.specs.Str.Parse.{digits_value}
use Rattle.std.proofs.lemmas.Bool.Decides.{nat_tests}
use Rattle.std.proofs.lemmas.Int.Digits.{digits_value_push}
use Rattle.std.proofs.lemmas.List.Elements.{filter-append}
use Rattle.vital_naturals.proofs.DigitLemmas.{pow-more, value_push}
use Rattle.vital_naturals.specs.Digits.{value}
use Rattle.vital_naturals.specs.Numerals.{number}

second-of : (a b : Bool) (x y z : ℕ) → a ≡ false → b ≡ true → cond a x (cond b y z) ≡ y
second-of true b x y z h h' = absurd (cc)
second-of false true x y z h h' = refl
second-of false false x y z h h' = absurd (cc)

digit-is : (byte : ℕ) → is_ascii_digit byte ≡ true → digit_value byte ≡ byte - 48
digit-is byte h =
    let not-below : nat_lt byte 48 ≡ false = grind (arith, nat_tests) in
    let below : nat_lt byte 58 ≡ true = grind (arith, nat_tests) in
    second-of (nat_lt byte 48) (nat_lt byte 58) 36 (byte - 48) _ not-below below

digits-of-last : (others : List ℕ) (byte : ℕ) (b : Bool) → is_ascii_digit byte ≡ b → filter is_ascii_digit (others ++ byte ∷ []) ≡ filter is_ascii_digit others ++ cond b (byte ∷ []) []
digits-of-last others byte b is = filter-append is_ascii_digit others (byte ∷ []) ∙ ap (λ t. filter is_ascii_digit others ++ cond t (byte ∷ []) []) is

append-none : (xs : List ℕ) → xs ++ [] ≡ xs
append-none [] = refl
append-none (x ∷ xs) = ap (λ ys. x ∷ ys) (append-none xs)

-- a literal is its last digit behind the others
pub last-digit : (rest others : List ℕ) (byte : ℕ) → rest ≡ others ++ byte ∷ [] → is_ascii_digit byte ≡ true → number rest ≡ number others * 10 + (byte - 48)
last-digit rest others byte is digit =
    ap number is
    ∙ ap (digits_value 10) (digits-of-last others byte true digit)
    ∙ digits_value_push 10 (filter is_ascii_digit others) byte
    ∙ ap (λ d. number others * 10 + d) (digit-is byte digit)

-- what is no digit counts for nothing
pub no-digit : (rest others : List ℕ) (byte : ℕ) → rest ≡ others ++ byte ∷ [] → is_ascii_digit byte ≡ false → number rest ≡ number others
no-digit rest others byte is digit =
    ap number is ∙ ap (digits_value 10) (digits-of-last others byte false digit ∙ append-none (filter is_ascii_digit others))

-- a digit is less than ten
pub digit_below : (byte : ℕ) → is_ascii_digit byte ≡ true → byte - 48 < 10
digit_below byte h = grind (arith, nat_tests)

-- the last digit of a literal is taken
digit-taken : (ds rest others : List ℕ) (byte whole : ℕ) → rest ≡ others ++ byte ∷ [] → is_ascii_digit byte ≡ true → value ds + 10 ^ length ds * number rest ≡ whole → value (ds ++ (byte - 48) ∷ []) + 10 ^ (length ds + 1) * number others ≡ whole
digit-taken ds rest others byte whole is digit h =
    let last = ap (λ n. 10 ^ length ds * n) (last-digit rest others byte is digit) in
    omega (arith, h, last, value_push ds (byte - 48), pow-more (length ds) (number others))

pub digit_pushed : (ds new rest others : List ℕ) (byte whole : ℕ) → new ≡ ds ++ (byte - 48) ∷ [] → rest ≡ others ++ byte ∷ [] → is_ascii_digit byte ≡ true → value ds + 10 ^ length ds * number rest ≡ whole → value new + 10 ^ length new * number others ≡ whole
digit_pushed ds new rest others byte whole pushed is digit h =
    ap (λ ys. value ys + 10 ^ length ys * number others) pushed
    ∙ ap (λ n. value (ds ++ (byte - 48) ∷ []) + 10 ^ n * number others) (length-append ds ((byte - 48) ∷ []))
    ∙ digit-taken ds rest others byte whole is digit h

-- the last byte of a literal is passed over
pub byte_passed : (ds rest others : List ℕ) (byte whole : ℕ) → rest ≡ others ++ byte ∷ [] → is_ascii_digit byte ≡ false → value ds + 10 ^ length ds * number rest ≡ whole → value ds + 10 ^ length ds * number others ≡ whole
byte_passed ds rest others byte whole is other h = sym (ap (λ n. value ds + 10 ^ length ds * n) (no-digit rest others byte is other)) ∙ h
