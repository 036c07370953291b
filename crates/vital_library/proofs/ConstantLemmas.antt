-- One turn of a loop that puts what one element gives.
use Rattle.std.proofs.Common.{◌≡◌, ℕ, ◌+◌, ◌<◌, List, [], ◌∷◌, ◌++◌, length, take, get_or, sym, ◌∙◌, ap, append-nil, append_assoc}
use Rattle.std.specs.Prelude.{Option}
use Rattle.std.specs.List.{filter_map, flat_map}
use Rattle.std.proofs.lemmas.Grind.{flat_map-append}
use Rattle.std.proofs.lemmas.List.{take_more}
use Rattle.std.proofs.lemmas.List.Elements.{filter_map-append}

pub flat_map-take : {A B : Type 0} (f : A → List B) (xs : List A) (i : ℕ) (x : A) → i < length xs → x ≡ get_or xs i x → flat_map f (take (i + 1) xs) ≡ flat_map f (take i xs) ++ f x
flat_map-take f xs i x within is =
    ap (flat_map f) (take_more xs i x within ∙ ap (λ y. take i xs ++ y ∷ []) (sym is))
    ∙ flat_map-append f (take i xs) (x ∷ [])
    ∙ ap (λ last. flat_map f (take i xs) ++ last) (append-nil (f x))

pub filter_map-take : {A B : Type 0} (f : A → Option B) (xs : List A) (i : ℕ) (x : A) → i < length xs → x ≡ get_or xs i x → filter_map f (take (i + 1) xs) ≡ filter_map f (take i xs) ++ filter_map f (x ∷ [])
filter_map-take f xs i x within is =
    ap (filter_map f) (take_more xs i x within ∙ ap (λ y. take i xs ++ y ∷ []) (sym is))
    ∙ filter_map-append f (take i xs) (x ∷ [])

-- what stood at first, what was put and what is put now
pub put-more : {B : Type 0} (first put more all now new : List B) → new ≡ now ++ more → now ≡ first ++ put → all ≡ put ++ more → new ≡ first ++ all
put-more first put more all now new e before is = e ∙ ap (λ bs. bs ++ more) before ∙ append_assoc first put more ∙ ap (λ bs. first ++ bs) (sym is)
