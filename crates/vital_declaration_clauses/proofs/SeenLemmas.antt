-- Declarations beside their viewpoints.
use Rattle.std.proofs.Common.{◌≡◌, ℕ, zero, suc, ◌+◌, ◌<◌, List, [], ◌∷◌, ◌++◌, length, take, map, get_or, refl, sym, ◌∙◌, ap, append_assoc, arith}
use Rattle.std.specs.Prelude.{Bool, cond, Option, None, Some, filter, unwrap_or}
use Rattle.std.specs.List.{zip}
use Rattle.std.proofs.lemmas.List.{get_or_default, map-append}
use Rattle.std.proofs.lemmas.List.Elements.{filter-append}
use Rattle.vital_base.specs.declared.place.Place.{Place}
use Rattle.vital_names.specs.Viewpoints.{first_places_from}

-- there are as many viewpoints as declarations
pub length-viewpoints : {A : Type 0} (place : A → Place) (last : A → Bool) (begun : Option Place) (ds : List A) → length (first_places_from place last begun ds) ≡ length ds
length-viewpoints place last begun [] = refl
length-viewpoints place last begun (d ∷ ds) = ap suc (length-viewpoints place last (cond (last d) None (Some (unwrap_or begun (place d)))) ds)

pub zip-none : {A B : Type 0} (vs : List A) → zip {X = B} vs [] ≡ []
zip-none [] = refl
zip-none (v ∷ vs) = refl

-- one pair more
zip-more : {A B : Type 0} (vs : List A) (ds : List B) (i : ℕ) (v : A) (d : B) → i < length vs → i < length ds → v ≡ get_or vs i v → d ≡ get_or ds i d → zip vs (take (suc i) ds) ≡ zip vs (take i ds) ++ (v, d) ∷ []
zip-more [] ds i v d there within v_is d_is = absurd (omega arith)
zip-more (w ∷ vs) [] i v d there within v_is d_is = absurd (omega arith)
zip-more (w ∷ vs) (e ∷ ds) zero v d there within v_is d_is = ap (λ x. (x, e) ∷ zip vs []) (sym v_is) ∙ ap (λ x. (v, x) ∷ zip vs []) (sym d_is) ∙ ap (λ r. (v, d) ∷ r) (zip-none vs)
zip-more (w ∷ vs) (e ∷ ds) (suc i) v d there within v_is d_is =
    let there' : i < length vs = omega arith in
    let within' : i < length ds = omega arith in
    ap (λ r. (w, e) ∷ r) (zip-more vs ds i v d there' within' v_is d_is)

-- what is kept of one pair more
kept-more : {A B C : Type 0} (test : (A × B) → Bool) (value : (A × B) → C) (vs : List A) (ds : List B) (i : ℕ) (v : A) (d : B) → i < length vs → i < length ds → v ≡ get_or vs i v → d ≡ get_or ds i d
    → map value (filter test (zip vs (take (i + 1) ds))) ≡ map value (filter test (zip vs (take i ds))) ++ map value (filter test ((v, d) ∷ []))
kept-more test value vs ds i v d there within v_is d_is =
    let next : i + 1 ≡ suc i = omega arith in
    ap (λ k. map value (filter test (zip vs (take k ds)))) next
    ∙ ap (λ ps. map value (filter test ps)) (zip-more vs ds i v d there within v_is d_is)
    ∙ ap (map value) (filter-append test (zip vs (take i ds)) ((v, d) ∷ []))
    ∙ map-append value (filter test (zip vs (take i ds))) (filter test ((v, d) ∷ []))

-- the same, behind others
pub seen-more : {A B C : Type 0} (test : (A × B) → Bool) (value : (A × B) → C) (vs : List A) (ds : List B) (i : ℕ) (e : A) (d : B) (new old initial : List C) → i < length vs → i < length ds → d ≡ get_or ds i d
    → old ≡ initial ++ map value (filter test (zip vs (take i ds))) → new ≡ old ++ map value (filter test ((get_or vs i e, d) ∷ []))
    → new ≡ initial ++ map value (filter test (zip vs (take (i + 1) ds)))
seen-more test value vs ds i e d new old initial there within d_is before put =
    let v = get_or vs i e in
    put
    ∙ ap (λ ps. ps ++ map value (filter test ((v, d) ∷ []))) before
    ∙ append_assoc initial (map value (filter test (zip vs (take i ds)))) (map value (filter test ((v, d) ∷ [])))
    ∙ ap (λ ps. initial ++ ps) (sym (kept-more test value vs ds i v d there within (get_or_default vs i e v there) d_is))
