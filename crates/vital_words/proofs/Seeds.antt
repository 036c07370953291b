-- How a seed is read, digit by digit.
use Rattle.std.proofs.Common.{◌≡◌, ℕ, ◌+◌, ◌-◌, ◌*◌, ◌≤◌, ◌<◌, true, false, ◌&&◌, cond, leb, List, [], ◌∷◌, length, drop, get_or, Option, Some, None, refl, sym, ap, ◌∙◌, arith}
use Rattle.std.specs.Char.{is_ascii_digit, digit_value}
use Rattle.std.specs.List.{list_all}
use Rattle.std.specs.Str.Parse.{digits_value_after}
use Rattle.std.proofs.lemmas.Bool.{lt-leb, le-leb}
use Rattle.std.proofs.lemmas.Bool.Decides.{nat_tests}
use Rattle.std.proofs.lemmas.List.{drop_more}
use Rattle.vital_words.specs.Keys.{seed_of}

-- the seed of the digits that follow those of a number
abbrev pub seed_after : ℕ → List ℕ → Option ℕ
seed_after number digits = cond (list_all is_ascii_digit digits && leb (digits_value_after 10 number digits) 18_446_744_073_709_551_615) (Some (digits_value_after 10 number digits)) None

-- more digits make no number less
after-ge : (number : ℕ) (digits : List ℕ) → number ≤ digits_value_after 10 number digits
after-ge number [] = omega arith
after-ge number (d ∷ ds) = omega (arith, after-ge (number * 10 + digit_value d) ds)

-- what no word has room for is no seed
too_great : (number : ℕ) (digits : List ℕ) → 18_446_744_073_709_551_615 < number → seed_after number digits ≡ None
too_great number digits lt =
    let ge = after-ge number digits in
    rw (lt-leb (digits_value_after 10 number digits) 18_446_744_073_709_551_615 (omega arith))
    (elim (list_all is_ascii_digit digits) as (λ all. cond (all && false) (Some (digits_value_after 10 number digits)) None ≡ None) [ true ↦ refl | false ↦ refl ])

-- digits of which there are neither none nor too many
seed_is : (digits : List ℕ) → 0 < length digits → length digits ≤ 20 → seed_of digits ≡ seed_after 0 digits
seed_is digits some few = rw (le-leb 1 (length digits) (omega arith), le-leb (length digits) 20 few) refl

-- a digit more than a word has room for
pub refused : (digits : List ℕ) (i number : ℕ) → 0 < length digits → length digits ≤ 20 → i < length digits → is_ascii_digit (get_or digits i 0) ≡ true
    → seed_after number (drop i digits) ≡ seed_after 0 digits → 18_446_744_073_709_551_615 < number * 10 + (get_or digits i 0 - 48) → None ≡ seed_of digits
refused digits i number some few lt digit so_far great =
    let value : digit_value (get_or digits i 0) ≡ get_or digits i 0 - 48 = grind (arith, nat_tests) in
    let next : seed_after number (get_or digits i 0 ∷ drop (i + 1) digits) ≡ seed_after (number * 10 + digit_value (get_or digits i 0)) (drop (i + 1) digits) = rw digit refl in
    sym (too_great (number * 10 + digit_value (get_or digits i 0)) (drop (i + 1) digits) (omega arith))
    ∙ sym next ∙ ap (seed_after number) (sym (drop_more digits i 0 lt)) ∙ so_far ∙ sym (seed_is digits some few)

-- the last digit is read
pub accepted : (digits : List ℕ) (number : ℕ) → 0 < length digits → length digits ≤ 20 → number ≤ 18_446_744_073_709_551_615
    → seed_after number [] ≡ seed_after 0 digits → Some number ≡ seed_of digits
accepted digits number some few fits so_far =
    let last : seed_after number [] ≡ Some number = rw (le-leb number 18_446_744_073_709_551_615 fits) refl in
    sym last ∙ so_far ∙ sym (seed_is digits some few)
