-- Numbers by names, with that of one name more.
use Rattle.std.proofs.Common.{◌≡◌, ℕ, suc, ◌+◌, ◌<◌, true, false, List, [], ◌∷◌, ◌++◌, length, take, map, get_or, refl, sym, ◌∙◌, ap, arith, rules}
use Rattle.std.specs.Prelude.{Bool, IfSome, cond, Option, Some, None}
use Rattle.std.specs.Str.{bytes_eq}
use Rattle.std.proofs.lemmas.List.Quantifiers.{position-Some}
use Rattle.std.specs.List.{position_from}
use Rattle.std.specs.Option.{option_or}
use Rattle.std.proofs.lemmas.List.{get_or_default, length-map, length-take-le}
use Rattle.vital_cell.proofs.ListLemmas.{map-take}
use Rattle.vital_typed_cells.specs.Bits.{number_of}

or-first : (b : Bool) (n : ℕ) (all first last : Option ℕ) → all ≡ option_or first last → cond b (Some n) all ≡ option_or (cond b (Some n) first) last
or-first true n all first last e = refl
or-first false n all first last e = e

position_from-push : {B : Type 0} (test : B → Bool) (n : ℕ) (xs : List B) (x : B) → position_from test n (xs ++ x ∷ []) ≡ option_or (position_from test n xs) (cond (test x) (Some (n + length xs)) None)
position_from-push test n [] x =
    let same : n ≡ n + 0 = omega arith in
    ap (λ m. cond (test x) (Some m) None) same
position_from-push test n (y ∷ ys) x =
    let same : (n + 1) + length ys ≡ n + suc (length ys) = omega arith in
    or-first (test y) n _ _ _
    (position_from-push test (n + 1) ys x ∙ ap (λ m. option_or (position_from test (n + 1) ys) (cond (test x) (Some m) None)) same)

-- a map has one number more, under a name that had none
pub number-more : {A B : Type 0} (see : A → B) (test : B → Bool) (xs : List A) (i : ℕ) (d : A) (old new : Option ℕ) → i < length xs → old ≡ position_from test 0 (map see (take i xs)) → new ≡ option_or old (cond (test (see (get_or xs i d))) (Some i) None) → new ≡ position_from test 0 (map see (take (i + 1) xs))
number-more see test xs i d old new within before put =
    let x = get_or xs i d in
    let here : i ≡ 0 + length (map see (take i xs)) = omega (arith, length-map (take i xs) see, length-take-le i xs (omega arith)) in
    put
    ∙ ap (λ o. option_or o (cond (test (see x)) (Some i) None)) before
    ∙ ap (λ n. option_or (position_from test 0 (map see (take i xs))) (cond (test (see x)) (Some n) None)) here
    ∙ sym (position_from-push test 0 (map see (take i xs)) (see x))
    ∙ ap (position_from test 0) (sym (map-take see xs i x within (get_or_default xs i d x within)))

-- The number of a name is that of one of the names.
pub number-within : (names : List (List ℕ)) (name : List ℕ) (o : Option ℕ) → o ≡ number_of names name → IfSome o (λ n. n < length names)
number-within names name None is = search rules
number-within names name (Some n) is = (position-Some (λ m. bytes_eq m name) names n [] (sym is)).0
