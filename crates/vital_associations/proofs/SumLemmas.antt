-- Digits read from the right.
use Rattle.std.proofs.Common.{◌≡◌, ℕ, ◌+◌, ◌-◌, ◌*◌, ◌<◌, true, false, List, [], ◌∷◌, ◌++◌, filter, refl, sym, ◌∙◌, ap, append-nil, arith}
use Rattle.std.specs.Prelude.{Bool, cond, ◌==◌, nat_lt}
use Rattle.std.specs.Char.{digit_value, is_ascii_digit}
use Rattle.std.specs.Str.Parse.{digits_value}
use Rattle.std.proofs.lemmas.Bool.Decides.{nat_tests}
use Rattle.std.proofs.lemmas.Int.Digits.{digits_value_push}
use Rattle.std.proofs.lemmas.List.Elements.{filter-append}
use Rattle.vital_declarations.specs.Numbers.{number}

second-of : (a b : Bool) (x y z : ℕ) → a ≡ false → b ≡ true → cond a x (cond b y z) ≡ y
second-of true b x y z h h' = absurd (cc)
second-of false true x y z h h' = refl
second-of false false x y z h h' = absurd (cc)

digit-is : (byte : ℕ) → is_ascii_digit byte ≡ true → digit_value byte ≡ byte - 48
digit-is byte h =
    let not-below : nat_lt byte 48 ≡ false = grind (arith, nat_tests) in
    let below : nat_lt byte 58 ≡ true = grind (arith, nat_tests) in
    second-of (nat_lt byte 48) (nat_lt byte 58) 36 (byte - 48) _ not-below below

digits-of-last : (others : List ℕ) (byte : ℕ) (b : Bool) → is_ascii_digit byte ≡ b → filter is_ascii_digit (others ++ byte ∷ []) ≡ filter is_ascii_digit others ++ cond b (byte ∷ []) []
digits-of-last others byte b is = filter-append is_ascii_digit others (byte ∷ []) ∙ ap (λ t. filter is_ascii_digit others ++ cond t (byte ∷ []) []) is

-- the last digit of a literal
pub last-digit : (rest others : List ℕ) (byte : ℕ) → rest ≡ others ++ byte ∷ [] → is_ascii_digit byte ≡ true → number rest ≡ number others * 10 + (byte - 48)
last-digit rest others byte is digit =
    ap number is
    ∙ ap (digits_value 10) (digits-of-last others byte true digit)
    ∙ digits_value_push 10 (filter is_ascii_digit others) byte
    ∙ ap (λ d. number others * 10 + d) (digit-is byte digit)

-- what is no digit counts for nothing
pub no-digit : (rest others : List ℕ) (byte : ℕ) → rest ≡ others ++ byte ∷ [] → is_ascii_digit byte ≡ false → number others ≡ number rest
no-digit rest others byte is digit =
    sym (ap number is ∙ ap (digits_value 10) (digits-of-last others byte false digit ∙ append-nil (filter is_ascii_digit others)))

-- two numbers with one last digit are the same if they are without it
pub same-digit : (p q d e : ℕ) → d < 10 → e < 10 → d ≡ e → (p * 10 + d == q * 10 + e) ≡ (p == q)
same-digit p q d e small small' same = grind (arith, nat_tests)

-- two numbers with different last digits differ
pub other-digit : (p q d e : ℕ) → d < 10 → e < 10 → (d == e) ≡ false → (p * 10 + d == q * 10 + e) ≡ false
other-digit p q d e small small' apart = grind (arith, nat_tests)
