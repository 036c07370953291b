-- What one item of a call more gives.
use Rattle.std.proofs.Common.{◌≡◌, ℕ, ◌+◌, ◌<◌, List, [], ◌∷◌, ◌++◌, length, take, get_or, sym, ◌∙◌, ap, append_assoc, arith}
use Rattle.std.specs.Prelude.{Bool, ◌&&◌, is_some, Option}
use Rattle.std.specs.List.{enumerate_from, filter_map}
use Rattle.std.proofs.lemmas.Grind.{flat_map-append}
use Rattle.std.proofs.lemmas.List.{length-take}
use Rattle.std.proofs.lemmas.List.Elements.{filter_map-append}
use Rattle.std.proofs.lemmas.List.Folds.{list_all-append}
use Rattle.vital_base.specs.declared.place.Place.{Place}
use Rattle.vital_expr.specs.Outcomes.{Outcome}
use Rattle.vital_nodes.proofs.Lists.{take-one}
use Rattle.vital_typed_statements.specs.declared.given.GivenActual.{GivenActual}
use Rattle.vital_typed_statements.specs.Given.{are_all_typed, broken_ones, typed_ones}

enumerate-push : {A : Type 0} (n : ℕ) (xs : List A) (x : A) → enumerate_from n (xs ++ x ∷ []) ≡ enumerate_from n xs ++ (n + length xs, x) ∷ []
enumerate-push n [] x = let same : n ≡ n + 0 = omega arith in ap (λ m. (m, x) ∷ []) same
enumerate-push n (y ∷ ys) x =
    let same : n + 1 + length ys ≡ n + length (y ∷ ys) = omega arith in
    ap (λ others. (n, y) ∷ others) (enumerate-push (n + 1) ys x ∙ ap (λ m. enumerate_from (n + 1) ys ++ (m, x) ∷ []) same)

-- the outcomes of the items so far, and of one more
outcomes-more : {A B : Type 0} (f : (ℕ × A) → Option B) (xs : List A) (i : ℕ) (x : A) → i < length xs → x ≡ get_or xs i x → filter_map f (enumerate_from 0 (take (i + 1) xs)) ≡ filter_map f (enumerate_from 0 (take i xs)) ++ filter_map f ((i, x) ∷ [])
outcomes-more f xs i x within is =
    let here : 0 + length (take i xs) ≡ i = omega (arith, length-take i xs) in
    ap (λ ys. filter_map f (enumerate_from 0 ys)) (take-one xs i x within is)
    ∙ ap (filter_map f) (enumerate-push 0 (take i xs) x ∙ ap (λ m. enumerate_from 0 (take i xs) ++ (m, x) ∷ []) here)
    ∙ filter_map-append f (enumerate_from 0 (take i xs)) ((i, x) ∷ [])

pub typed_more : {A : Type 0} (f : (ℕ × A) → Option (Outcome GivenActual)) (xs : List A) (i : ℕ) (x : A) (before now : List GivenActual) → i < length xs → x ≡ get_or xs i x → before ≡ typed_ones (filter_map f (enumerate_from 0 (take i xs))) → now ≡ before ++ typed_ones (filter_map f ((i, x) ∷ [])) → now ≡ typed_ones (filter_map f (enumerate_from 0 (take (i + 1) xs)))
typed_more f xs i x before now within is so-far put =
    let front = filter_map f (enumerate_from 0 (take i xs)) in
    let here = filter_map f ((i, x) ∷ []) in
    put
    ∙ ap (λ gs. gs ++ typed_ones here) so-far
    ∙ sym (filter_map-append (λ (o : Outcome GivenActual). o.tree) front here)
    ∙ ap typed_ones (sym (outcomes-more f xs i x within is))

pub all_more : {A : Type 0} (f : (ℕ × A) → Option (Outcome GivenActual)) (xs : List A) (i : ℕ) (x : A) (before now : Bool) → i < length xs → x ≡ get_or xs i x → before ≡ are_all_typed (filter_map f (enumerate_from 0 (take i xs))) → now ≡ (before && are_all_typed (filter_map f ((i, x) ∷ []))) → now ≡ are_all_typed (filter_map f (enumerate_from 0 (take (i + 1) xs)))
all_more f xs i x before now within is so-far put =
    let front = filter_map f (enumerate_from 0 (take i xs)) in
    let here = filter_map f ((i, x) ∷ []) in
    put
    ∙ ap (λ b. b && are_all_typed here) so-far
    ∙ sym (list_all-append (λ (o : Outcome GivenActual). is_some o.tree) front here)
    ∙ ap are_all_typed (sym (outcomes-more f xs i x within is))

pub broken_more : {A : Type 0} (f : (ℕ × A) → Option (Outcome GivenActual)) (xs : List A) (i : ℕ) (x : A) (first before now : List Place) → i < length xs → x ≡ get_or xs i x → before ≡ first ++ broken_ones (filter_map f (enumerate_from 0 (take i xs))) → now ≡ before ++ broken_ones (filter_map f ((i, x) ∷ [])) → now ≡ first ++ broken_ones (filter_map f (enumerate_from 0 (take (i + 1) xs)))
broken_more f xs i x first before now within is so-far put =
    let front = filter_map f (enumerate_from 0 (take i xs)) in
    let here = filter_map f ((i, x) ∷ []) in
    put
    ∙ ap (λ ps. ps ++ broken_ones here) so-far
    ∙ append_assoc first (broken_ones front) (broken_ones here)
    ∙ ap (λ ps. first ++ ps) (
    sym (flat_map-append (λ (o : Outcome GivenActual). o.places) front here)
    ∙ ap broken_ones (sym (outcomes-more f xs i x within is)))
