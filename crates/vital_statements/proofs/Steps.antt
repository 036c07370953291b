-- One turn of a loop over a list whose elements are judged with those before them, and truth values that turns put together.
use Rattle.std.proofs.Common.{◌≡◌, ℕ, ◌+◌, ◌<◌, List, [], ◌∷◌, ◌++◌, length, take, map, get_or, refl, sym, ◌∙◌, ap, append-nil, append_assoc}
use Rattle.std.specs.Prelude.{Bool, true, false, cond, ◌||◌, Option, Some, None, is_some, filter}
use Rattle.std.specs.Borrow.{Bor}
use Rattle.std.specs.Option.{option_copied, option_map, option_map_or, option_to_list}
use Rattle.std.specs.List.{filter_map, list_any}
use Rattle.std.proofs.lemmas.List.Folds.{list_any-append}
use Rattle.vital_base.specs.declared.place.Place.{Place}
use Rattle.vital_nodes.proofs.Lists.{any-one, filter_map-one, map-take, only-one, take-one}
use Rattle.vital_statements.specs.Lists.{each, each_after, place_if}

-- one more of which each is judged with those before it
each_after-push : {A B : Type 0} (give : List A → A → List B) (before ys : List A) (x : A) → each_after give before (ys ++ x ∷ []) ≡ each_after give before ys ++ give (before ++ ys) x
each_after-push give before [] x = append-nil (give before x) ∙ ap (λ b. give b x) (sym (append-nil before))
each_after-push give before (y ∷ ys) x =
    ap (λ bs. give before y ++ bs) (each_after-push give (before ++ y ∷ []) ys x)
    ∙ sym (append_assoc (give before y) (each_after give (before ++ y ∷ []) ys) (give ((before ++ y ∷ []) ++ ys) x))
    ∙ ap (λ b. (give before y ++ each_after give (before ++ y ∷ []) ys) ++ give b x) (append_assoc before (y ∷ []) ys)

pub each-take : {A B : Type 0} (give : List A → A → List B) (xs : List A) (i : ℕ) (x : A) → i < length xs → x ≡ get_or xs i x → each give (take (i + 1) xs) ≡ each give (take i xs) ++ give (take i xs) x
each-take give xs i x within is = ap (each give) (take-one xs i x within is) ∙ each_after-push give [] (take i xs) x

pub each-seen : {A B C : Type 0} (see : A → B) (give : List B → B → List C) (xs : List A) (i : ℕ) (x : A) → i < length xs → x ≡ get_or xs i x → each give (map see (take (i + 1) xs)) ≡ each give (map see (take i xs)) ++ give (map see (take i xs)) (see x)
each-seen see give xs i x within is = ap (each give) (map-take see xs i x within is) ∙ each_after-push give [] (map see (take i xs)) (see x)

pub kept-one : {A : Type 0} (test : A → Bool) (place : A → Place) (x : A) → place_if (test x) (place x) ≡ map place (filter test (x ∷ []))
kept-one test place x = step (test x)
  where
    step : (b : Bool) → place_if b (place x) ≡ map place (cond b (x ∷ []) [])
    step true = refl
    step false = refl

pub place_if-same : (b b' : Bool) (p p' : Place) → b ≡ b' → p ≡ p' → place_if b p ≡ place_if b' p'
place_if-same b b' p p' same there = ap (λ x. place_if x p) same ∙ ap (place_if b') there

pub any-kept : {A B : Type 0} (test : B → Bool) (f : A → Option B) (xs : List A) (i : ℕ) (x : A) → i < length xs → x ≡ get_or xs i x → list_any test (filter_map f (take (i + 1) xs)) ≡ (list_any test (filter_map f (take i xs)) || list_any test (option_to_list (f x)))
any-kept test f xs i x within is =
    ap (list_any test) (filter_map-one f xs i x within is ∙ ap (λ ys. filter_map f (take i xs) ++ ys) (only-one f x))
    ∙ list_any-append test (filter_map f (take i xs)) (option_to_list (f x))

pub or-swap : (a b : Bool) → (a || b) ≡ (b || a)
or-swap true true = refl
or-swap true false = refl
or-swap false true = refl
or-swap false false = refl

pub or-same : {A : Type 0} (f g : A → Bool) (o : Option A) (d : Bool) → ((x : A) → f x ≡ g x) → option_map_or f o d ≡ option_map_or g o d
or-same f g None d same = refl
or-same f g (Some x) d same = same x

pub any-push : {A : Type 0} (test : A → Bool) (xs : List A) (i : ℕ) (x : A) → i < length xs → x ≡ get_or xs i x → list_any test (take (i + 1) xs) ≡ (list_any test (take i xs) || test x)
any-push test xs i x within is = any-one test xs i x within is ∙ or-swap (test x) (list_any test (take i xs))

pub is_some-map : {A B : Type 0} (f : A → B) (o : Option A) → is_some o ≡ is_some (option_map f o)
is_some-map f None = refl
is_some-map f (Some x) = refl

pub is_some-copied : {A : Type 0} (o : Option (Bor A)) → is_some o ≡ is_some (option_copied o)
is_some-copied None = refl
is_some-copied (Some x) = refl
