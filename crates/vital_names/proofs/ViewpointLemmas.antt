-- Viewpoints, with that of one more declaration.
use Rattle.std.proofs.Common.{◌≡◌, ℕ, suc, ◌+◌, ◌<◌, List, [], ◌∷◌, ◌++◌, length, drop, drop-cons, get_or, sym, ◌∙◌, ap, append_assoc, arith}
use Rattle.std.specs.Prelude.{Bool, cond, Option, Some, None, unwrap_or}
use Rattle.vital_base.specs.declared.place.Place.{Place}
use Rattle.vital_names.specs.Viewpoints.{first_places_from}

pub viewpoint-more : {A : Type 0} (place : A → Place) (last : A → Bool) (ds : List A) (i : ℕ) (d : A) (begun next : Option Place) (first own : Place) (is_last : Bool) (places new all : List Place) → i < length ds → d ≡ get_or ds i d
    → own ≡ place d → first ≡ unwrap_or begun own → is_last ≡ last d → next ≡ cond is_last None (Some first) → new ≡ places ++ first ∷ []
    → places ++ first_places_from place last begun (drop i ds) ≡ all → new ++ first_places_from place last next (drop (i + 1) ds) ≡ all
viewpoint-more place last ds i d begun next first own is_last places new all within is own_is first_is last_is next_is push before =
    let one : suc i ≡ i + 1 = omega arith in
    let dropped : drop i ds ≡ d ∷ drop (i + 1) ds = drop-cons ds i d within ∙ ap (λ y. y ∷ drop (suc i) ds) (sym is) ∙ ap (λ n. d ∷ drop n ds) one in
    let here : first ≡ unwrap_or begun (place d) = first_is ∙ ap (unwrap_or begun) own_is in
    let later : next ≡ cond (last d) None (Some (unwrap_or begun (place d))) = next_is ∙ ap (λ b. cond b None (Some first)) last_is ∙ ap (λ p. cond (last d) None (Some p)) here in
    ap (λ ps. ps ++ first_places_from place last next (drop (i + 1) ds)) push
    ∙ append_assoc places (first ∷ []) (first_places_from place last next (drop (i + 1) ds))
    ∙ ap (λ n. places ++ first ∷ first_places_from place last n (drop (i + 1) ds)) later
    ∙ ap (λ p. places ++ p ∷ first_places_from place last (cond (last d) None (Some (unwrap_or begun (place d)))) (drop (i + 1) ds)) here
    ∙ ap (λ es. places ++ first_places_from place last begun es) (sym dropped)
    ∙ before
