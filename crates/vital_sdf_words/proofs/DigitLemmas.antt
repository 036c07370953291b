-- The digits of a number, one byte after another.
use Rattle.std.proofs.Common.{◌≡◌, ℕ, suc, ◌+◌, ◌*◌, ◌<◌, true, false, List, [], ◌∷◌, ◌++◌, length, drop, refl, sym, ◌∙◌, ap, append-nil, add-zero, arith}
use Rattle.std.specs.Prelude.{Bool, cond, filter, ◌||◌}
use Rattle.std.specs.Char.{digit_value, is_ascii_digit}
use Rattle.std.specs.List.{after_first, list_any, position_or_len}
use Rattle.std.specs.Str.Parse.{digits_value}
use Rattle.std.proofs.Math.Bool.{or-false}
use Rattle.std.proofs.lemmas.Bool.{or_parts}
use Rattle.std.proofs.lemmas.Bool.Decides.{nat_tests}
use Rattle.std.proofs.lemmas.Int.Digits.{digits_value_push}
use Rattle.std.proofs.lemmas.List.{length-append}
use Rattle.std.proofs.lemmas.List.Elements.{filter-append}
use Rattle.std.proofs.lemmas.List.Folds.{list_any-append}
use Rattle.vital_sdf_words.specs.Decimals.{all_digits, count_behind_point, is_point}

after_first-cons : (byte : ℕ) (bytes : List ℕ) (b : Bool) → is_point byte ≡ b → after_first is_point (byte ∷ bytes) ≡ cond b bytes (after_first is_point bytes)
after_first-cons byte bytes true e = rw e refl
after_first-cons byte bytes false e =
    let next : (1 + position_or_len is_point bytes) + 1 ≡ suc (position_or_len is_point bytes + 1) = omega arith in
    rw e (ap (λ n. drop n (byte ∷ bytes)) next)

-- what stands behind the point, with one byte more
after-push-at : (first : ℕ) (bytes : List ℕ) (byte : ℕ) (b : Bool) → is_point first ≡ b → after_first is_point (bytes ++ byte ∷ []) ≡ cond (list_any is_point bytes) (after_first is_point bytes ++ byte ∷ []) [] → after_first is_point (first ∷ bytes ++ byte ∷ []) ≡ cond (b || list_any is_point bytes) (after_first is_point (first ∷ bytes) ++ byte ∷ []) []
after-push-at first bytes byte true e rest =
    after_first-cons first (bytes ++ byte ∷ []) true e ∙ ap (λ after. after ++ byte ∷ []) (sym (after_first-cons first bytes true e))
after-push-at first bytes byte false e rest =
    after_first-cons first (bytes ++ byte ∷ []) false e ∙ rest ∙ ap (λ after. cond (list_any is_point bytes) (after ++ byte ∷ []) []) (sym (after_first-cons first bytes false e))

after-one : (byte : ℕ) (b : Bool) → is_point byte ≡ b → after_first is_point (byte ∷ []) ≡ []
after-one byte true e = after_first-cons byte [] true e
after-one byte false e = after_first-cons byte [] false e

after-push : (bytes : List ℕ) (byte : ℕ) → after_first is_point (bytes ++ byte ∷ []) ≡ cond (list_any is_point bytes) (after_first is_point bytes ++ byte ∷ []) []
after-push [] byte = after-one byte (is_point byte) refl
after-push (first ∷ bytes) byte = after-push-at first bytes byte (is_point first) refl (after-push bytes byte)

after-none : (bytes : List ℕ) → list_any is_point bytes ≡ false → after_first is_point bytes ≡ []
after-none [] none = refl
after-none (first ∷ bytes) none =
    let parts = or_parts (is_point first) (list_any is_point bytes) none in
    after_first-cons first bytes false parts.0 ∙ after-none bytes parts.1

count-push-at : (bytes : List ℕ) (byte : ℕ) (b : Bool) → list_any is_point bytes ≡ b → count_behind_point (bytes ++ byte ∷ []) ≡ cond b (count_behind_point bytes + length (filter is_ascii_digit (byte ∷ []))) 0
count-push-at bytes byte true e =
    ap (λ after. length (filter is_ascii_digit after)) (rw e at (after-push bytes byte))
    ∙ ap length (filter-append is_ascii_digit (after_first is_point bytes) (byte ∷ []))
    ∙ length-append (filter is_ascii_digit (after_first is_point bytes)) (filter is_ascii_digit (byte ∷ []))
count-push-at bytes byte false e = ap (λ after. length (filter is_ascii_digit after)) (rw e at (after-push bytes byte))

-- how many digits stand behind the point, with one byte more: a digit, or another byte
pub count-digit : (bytes : List ℕ) (byte : ℕ) → is_ascii_digit byte ≡ true → list_any is_point bytes ≡ true → count_behind_point (bytes ++ byte ∷ []) ≡ count_behind_point bytes + 1
count-digit bytes byte digit behind = rw digit at (count-push-at bytes byte true behind)

pub count-none : (bytes : List ℕ) → list_any is_point bytes ≡ false → count_behind_point bytes ≡ 0
count-none bytes before = ap (λ after. length (filter is_ascii_digit after)) (after-none bytes before)

pub count-before : (bytes : List ℕ) (byte : ℕ) → list_any is_point bytes ≡ false → count_behind_point (bytes ++ byte ∷ []) ≡ 0
count-before bytes byte before = count-push-at bytes byte false before

count-other-at : (bytes : List ℕ) (byte : ℕ) (b : Bool) → list_any is_point bytes ≡ b → is_ascii_digit byte ≡ false → count_behind_point (bytes ++ byte ∷ []) ≡ count_behind_point bytes
count-other-at bytes byte true e other = rw (other, add-zero) at (count-push-at bytes byte true e)
count-other-at bytes byte false e other = count-push-at bytes byte false e ∙ sym (count-none bytes e)

pub count-other : (bytes : List ℕ) (byte : ℕ) → is_ascii_digit byte ≡ false → count_behind_point (bytes ++ byte ∷ []) ≡ count_behind_point bytes
count-other bytes byte other = count-other-at bytes byte (list_any is_point bytes) refl other

-- the number of all digits, with one byte more
pub digits-digit : (bytes : List ℕ) (digit : ℕ) → digit < 10 → all_digits (bytes ++ (48 + digit) ∷ []) ≡ all_digits bytes * 10 + digit
digits-digit bytes digit small =
    let is : is_ascii_digit (48 + digit) ≡ true = grind (arith, nat_tests) in
    let value : digit_value (48 + digit) ≡ digit = grind (arith, nat_tests) in
    let more : filter is_ascii_digit (bytes ++ (48 + digit) ∷ []) ≡ filter is_ascii_digit bytes ++ (48 + digit) ∷ [] = rw is at (filter-append is_ascii_digit bytes ((48 + digit) ∷ [])) in
    ap (digits_value 10) more ∙ digits_value_push 10 (filter is_ascii_digit bytes) (48 + digit) ∙ ap (λ d. all_digits bytes * 10 + d) value

pub digits-other : (bytes : List ℕ) (byte : ℕ) → is_ascii_digit byte ≡ false → all_digits (bytes ++ byte ∷ []) ≡ all_digits bytes
digits-other bytes byte other =
    let more : filter is_ascii_digit (bytes ++ byte ∷ []) ≡ filter is_ascii_digit bytes ++ [] = rw other at (filter-append is_ascii_digit bytes (byte ∷ [])) in
    ap (digits_value 10) (more ∙ append-nil (filter is_ascii_digit bytes))

-- has a point come, with one byte more?
pub point-push : (bytes : List ℕ) (byte : ℕ) (b : Bool) → is_point byte ≡ b → list_any is_point (bytes ++ byte ∷ []) ≡ (list_any is_point bytes || b)
point-push bytes byte b is = list_any-append is_point bytes (byte ∷ []) ∙ ap (λ p. list_any is_point bytes || p) (or-false (is_point byte) ∙ is)
