-- What stands before the first underscore of a text, and the rest.
use Rattle.std.proofs.Common.{◌≡◌, ℕ, suc, ◌+◌, ◌≤◌, true, false, List, [], ◌∷◌, length, take, drop, refl, ap, arith}
use Rattle.std.specs.Prelude.{Bool, cond, not, ◌==◌, unwrap_or, position, nat_lt, Some, None}
use Rattle.std.specs.List.{position_or_len}
use Rattle.vital_level0.specs.Prefixes.{underscore}
use Rattle.vital_level0.specs.Steps.{front_part, rest_after}

abbrev pub front_length : List ℕ → ℕ
front_length text = position_or_len (λ b. b == underscore) text

front-step : (b : ℕ) (bs : List ℕ) (c : Bool) (n : ℕ) → take n bs ≡ front_part bs → take (cond (not c) (1 + n) 0) (b ∷ bs) ≡ cond c [] (b ∷ front_part bs)
front-step b bs true n h = refl
front-step b bs false n h = let e : 1 + n ≡ suc n = omega arith in rw e (ap (λ xs. b ∷ xs) h)

pub front-take : (text : List ℕ) → take (front_length text) text ≡ front_part text
front-take [] = refl
front-take (b ∷ bs) = front-step b bs (b == underscore) (front_length bs) (front-take bs)

rest-step : (b : ℕ) (bs : List ℕ) (c : Bool) (n : ℕ) → drop n bs ≡ rest_after bs → drop (cond (not c) (1 + n) 0) (b ∷ bs) ≡ cond c (b ∷ bs) (rest_after bs)
rest-step b bs true n h = refl
rest-step b bs false n h = let e : 1 + n ≡ suc n = omega arith in rw e h

pub rest-drop : (text : List ℕ) → drop (front_length text) text ≡ rest_after text
rest-drop [] = refl
rest-drop (b ∷ bs) = rest-step b bs (b == underscore) (front_length bs) (rest-drop bs)

within-step : (c : Bool) (n m : ℕ) → n ≤ m → cond (not c) (1 + n) 0 ≤ suc m
within-step true n m h = omega arith
within-step false n m h = omega arith

pub front_length-within : (text : List ℕ) → front_length text ≤ length text
front_length-within [] = omega arith
front_length-within (b ∷ bs) = within-step (b == underscore) (front_length bs) (length bs) (front_length-within bs)

unwrap-step : (b : Bool) (n m : ℕ) → n ≤ m → nat_lt n m ≡ b → unwrap_or (cond b (Some n) None) m ≡ n
unwrap-step true n m within is = refl
unwrap-step false n m within is = grind (arith, within, is)

pub unwrap-position : (text : List ℕ) → unwrap_or (position (λ b. b == underscore) text) (length text) ≡ front_length text
unwrap-position text = unwrap-step (nat_lt (front_length text) (length text)) (front_length text) (length text) (front_length-within text) refl

pub front_at : (text : List ℕ) → take (unwrap_or (position (λ b. b == underscore) text) (length text)) text ≡ front_part text
front_at text = rw (unwrap-position text) (front-take text)

pub rest_at : (text : List ℕ) → drop (unwrap_or (position (λ b. b == underscore) text) (length text)) text ≡ rest_after text
rest_at text = rw (unwrap-position text) (rest-drop text)
