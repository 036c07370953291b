-- Digits read from the left, one after another.
use Rattle.std.proofs.Common.{◌≡◌, ℕ, zero, suc, ◌+◌, ◌-◌, ◌*◌, ◌<◌, ◌≤◌, List, length, take, drop, get_or, refl, sym, ◌∙◌, ap, arith}
use Rattle.std.specs.Char.{digit_value}
use Rattle.std.specs.Str.Parse.{digits_value}
use Rattle.std.proofs.lemmas.Int.Digits.{digits_value_more}
use Rattle.std.proofs.lemmas.List.{drop-drop, get_or-drop, get_or_default, take_all}
use Rattle.vital_declarations.specs.Digits.{behind_zeros, digits_of}
use Rattle.vital_declarations.specs.Numbers.{number}

-- zeros in front change no number
pub value-behind_zeros : (n : ℕ) (ds : List ℕ) → digits_value 10 (behind_zeros n ds) ≡ digits_value 10 ds
value-behind_zeros zero ds = refl
value-behind_zeros (suc n) ds = value-behind_zeros n ds

length-behind_zeros : (n : ℕ) (ds : List ℕ) → length (behind_zeros n ds) ≡ n + length ds
length-behind_zeros zero ds = omega arith
length-behind_zeros (suc n) ds = let before : length (behind_zeros n ds) ≡ n + length ds = length-behind_zeros n ds in omega arith

-- the digits of a literal that are padded to a width are that many
pub length-padded : (width count : ℕ) (ds : List ℕ) → count ≡ length ds → count ≤ width → length (behind_zeros (width - count) ds) ≡ width
length-padded width count ds is within = let all : length (behind_zeros (width - count) ds) ≡ (width - count) + length ds = length-behind_zeros (width - count) ds in omega arith

-- one digit more
pub digit-more : (xs : List ℕ) (i : ℕ) (digit : ℕ) → i < length xs → digit ≡ digit_value (get_or (drop i xs) 0 48) → digits_value 10 (take (i + 1) xs) ≡ digits_value 10 (take i xs) * 10 + digit
digit-more xs i digit within is =
    let here : i + 0 ≡ i = omega arith in
    digits_value_more 10 xs i within
    ∙ ap (λ d. digits_value 10 (take i xs) * 10 + digit_value d) (get_or_default xs i 0 48 within ∙ ap (λ k. get_or xs k 48) (sym here) ∙ sym (get_or-drop i xs 0 48))
    ∙ ap (λ d. digits_value 10 (take i xs) * 10 + d) (sym is)

pub drop-more : (xs left others : List ℕ) (i : ℕ) → left ≡ drop i xs → others ≡ drop 1 left → others ≡ drop (i + 1) xs
drop-more xs left others i before is = is ∙ ap (drop 1) before ∙ drop-drop 1 i xs

-- all digits of a padded literal
pub value-padded : (width count : ℕ) (literal : List ℕ) → count ≡ length (digits_of literal) → count ≤ width → digits_value 10 (take width (behind_zeros (width - count) (digits_of literal))) ≡ number literal
value-padded width count literal is within =
    let all : length (behind_zeros (width - count) (digits_of literal)) ≡ width = length-padded width count (digits_of literal) is within in
    ap (digits_value 10) (take_all width (behind_zeros (width - count) (digits_of literal)) (omega arith))
    ∙ value-behind_zeros (width - count) (digits_of literal)
