-- The numbers of what passes a test, with one more behind.
use Rattle.std.proofs.Common.{◌≡◌, ℕ, suc, ◌+◌, true, false, List, [], ◌∷◌, ◌++◌, length, refl, sym, ◌∙◌, ap, arith}
use Rattle.std.specs.Prelude.{Bool, cond, ◌||◌, is_some, position, Option, Some, None}
use Rattle.std.specs.List.{list_any, position_from}
use Rattle.std.specs.Option.{option_or}
use Rattle.std.proofs.lemmas.Iterator.Adapters.{position_from-zero}

or-first : (b : Bool) (n : ℕ) (all first last : Option ℕ) → all ≡ option_or first last → cond b (Some n) all ≡ option_or (cond b (Some n) first) last
or-first true n all first last e = refl
or-first false n all first last e = e

position_from-push : {B : Type 0} (test : B → Bool) (n : ℕ) (xs : List B) (x : B) → position_from test n (xs ++ x ∷ []) ≡ option_or (position_from test n xs) (cond (test x) (Some (n + length xs)) None)
position_from-push test n [] x =
    let same : n ≡ n + 0 = omega arith in
    ap (λ m. cond (test x) (Some m) None) same
position_from-push test n (y ∷ ys) x =
    let same : (n + 1) + length ys ≡ n + suc (length ys) = omega arith in
    or-first (test y) n _ _ _
    (position_from-push test (n + 1) ys x ∙ ap (λ m. option_or (position_from test (n + 1) ys) (cond (test x) (Some m) None)) same)

pub position-push : {B : Type 0} (test : B → Bool) (xs : List B) (x : B) → position test (xs ++ x ∷ []) ≡ option_or (position test xs) (cond (test x) (Some (length xs)) None)
position-push test xs x =
    let same : 0 + length xs ≡ length xs = omega arith in
    position_from-zero test (xs ++ x ∷ [])
    ∙ position_from-push test 0 xs x
    ∙ ap (λ o. option_or o (cond (test x) (Some (0 + length xs)) None)) (sym (position_from-zero test xs))
    ∙ ap (λ m. option_or (position test xs) (cond (test x) (Some m) None)) same

position_from-some : {B : Type 0} (test : B → Bool) (n : ℕ) (xs : List B) → is_some (position_from test n xs) ≡ list_any test xs
position_from-some test n [] = refl
position_from-some test n (x ∷ xs) = by_test (test x) (position_from-some test (n + 1) xs)
  where
    by_test : (b : Bool) → is_some (position_from test (n + 1) xs) ≡ list_any test xs → is_some (cond b (Some n) (position_from test (n + 1) xs)) ≡ (b || list_any test xs)
    by_test true is = refl
    by_test false is = is

-- it has a number where one passes
pub position-some : {B : Type 0} (test : B → Bool) (xs : List B) → is_some (position test xs) ≡ list_any test xs
position-some test xs = ap is_some (position_from-zero test xs) ∙ position_from-some test 0 xs
