-- Numbers by names, with that of one name more.
use Rattle.std.proofs.Common.{◌≡◌, ℕ, ◌+◌, ◌<◌, List, [], ◌∷◌, length, take, map, get_or, sym, ◌∙◌, ap, arith}
use Rattle.std.specs.Prelude.{Bool, cond, Option, Some, None}
use Rattle.std.specs.List.{position_from}
use Rattle.std.specs.Option.{option_or}
use Rattle.std.proofs.lemmas.List.{get_or_default, length-map, length-take-le}
use Rattle.vital_library.proofs.NumberLemmas.{position_from-append}
use Rattle.vital_nodes.proofs.Lists.{map-take}

-- a map has one number more, under a name that had none
pub number-more : {A B : Type 0} (see : A → B) (test : B → Bool) (xs : List A) (i : ℕ) (d : A) (old new : Option ℕ) → i < length xs → old ≡ position_from test 0 (map see (take i xs)) → new ≡ option_or old (cond (test (see (get_or xs i d))) (Some i) None) → new ≡ position_from test 0 (map see (take (i + 1) xs))
number-more see test xs i d old new within before put =
    let x = get_or xs i d in
    let here : i ≡ 0 + length (map see (take i xs)) = omega (arith, length-map (take i xs) see, length-take-le i xs (omega arith)) in
    put
    ∙ ap (λ o. option_or o (cond (test (see x)) (Some i) None)) before
    ∙ ap (λ n. option_or (position_from test 0 (map see (take i xs))) (cond (test (see x)) (Some n) None)) here
    ∙ sym (position_from-append test 0 (map see (take i xs)) (see x ∷ []))
    ∙ ap (position_from test 0) (sym (map-take see xs i x within (get_or_default xs i d x within)))
