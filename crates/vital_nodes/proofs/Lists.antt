-- One turn of a loop over a list: what is made of the front of a list with one element more. Where the elements are seen as something
-- else (a borrow as its value, a node as its view), what they are seen by comes first.
use Rattle.std.proofs.Common.{◌≡◌, ℕ, ◌+◌, ◌<◌, List, [], ◌∷◌, ◌++◌, length, take, map, get_or, refl, sym, ◌∙◌, ap, append-nil, append_assoc}
use Rattle.std.specs.Prelude.{Bool, true, false, ◌||◌, Option, Some, None, filter}
use Rattle.std.specs.Option.{option_to_list}
use Rattle.std.specs.List.{cons_option, filter_map, flat_map, list_any}
use Rattle.std.proofs.lemmas.Grind.{flat_map-append}
use Rattle.std.proofs.lemmas.List.{take_more, map-append}
use Rattle.std.proofs.lemmas.List.Elements.{filter-append, filter_map-append}
use Rattle.std.proofs.lemmas.List.Folds.{list_any-append}

-- ---- what a turn puts

-- it comes behind what the turns before it put, in a list that began with nothing
pub turn : {B : Type 0} (put more gives all now new : List B) → new ≡ now ++ more → now ≡ put → more ≡ gives → all ≡ put ++ gives → new ≡ all
turn put more gives all now new e before same is = e ∙ ap (λ bs. bs ++ more) before ∙ ap (λ bs. put ++ bs) same ∙ sym is

-- and in one that began with something
pub turn-behind : {B : Type 0} (first put more gives all now new : List B) → new ≡ now ++ more → now ≡ first ++ put → more ≡ gives → all ≡ put ++ gives → new ≡ first ++ all
turn-behind first put more gives all now new e before same is =
    e ∙ ap (λ bs. bs ++ more) before ∙ append_assoc first put more ∙ ap (λ bs. first ++ (put ++ bs)) same ∙ ap (λ bs. first ++ bs) (sym is)

-- two puts one after the other
pub put-two : {B : Type 0} (now first second mid new : List B) → mid ≡ now ++ first → new ≡ mid ++ second → new ≡ now ++ (first ++ second)
put-two now first second mid new e f = f ∙ ap (λ bs. bs ++ second) e ∙ append_assoc now first second

-- what is put if it is there is what a definition says
pub put-said : {A : Type 0} (old new : List A) (o said : Option A) → new ≡ old ++ cons_option o [] → o ≡ said → new ≡ old ++ cons_option said []
put-said old new o said put is = put ∙ ap (λ p. old ++ cons_option p []) is

cons-one : {B : Type 0} (o : Option B) → cons_option o [] ≡ option_to_list o
cons-one None = refl
cons-one (Some y) = refl

pub only-one : {A B : Type 0} (f : A → Option B) (x : A) → filter_map f (x ∷ []) ≡ option_to_list (f x)
only-one f x = cons-one (f x)

-- ---- one element more
pub take-one : {A : Type 0} (xs : List A) (i : ℕ) (x : A) → i < length xs → x ≡ get_or xs i x → take (i + 1) xs ≡ take i xs ++ x ∷ []
take-one xs i x within is = take_more xs i x within ∙ ap (λ y. take i xs ++ y ∷ []) (sym is)

pub filter_map-one : {A B : Type 0} (g : A → Option B) (xs : List A) (i : ℕ) (x : A) → i < length xs → x ≡ get_or xs i x → filter_map g (take (i + 1) xs) ≡ filter_map g (take i xs) ++ filter_map g (x ∷ [])
filter_map-one g xs i x within is = ap (filter_map g) (take-one xs i x within is) ∙ filter_map-append g (take i xs) (x ∷ [])

pub map_filter_map-one : {A B C : Type 0} (value : B → C) (g : A → Option B) (xs : List A) (i : ℕ) (x : A) → i < length xs → x ≡ get_or xs i x → map value (filter_map g (take (i + 1) xs)) ≡ map value (filter_map g (take i xs)) ++ map value (filter_map g (x ∷ []))
map_filter_map-one value g xs i x within is = ap (map value) (filter_map-one g xs i x within is) ∙ map-append value (filter_map g (take i xs)) (filter_map g (x ∷ []))

pub flat_map-one : {A B : Type 0} (g : A → List B) (xs : List A) (i : ℕ) (x : A) → i < length xs → x ≡ get_or xs i x → flat_map g (take (i + 1) xs) ≡ flat_map g (take i xs) ++ g x
flat_map-one g xs i x within is =
    ap (flat_map g) (take-one xs i x within is)
    ∙ flat_map-append g (take i xs) (x ∷ [])
    ∙ ap (λ last. flat_map g (take i xs) ++ last) (append-nil (g x))

pub map_filter-one : {A B : Type 0} (test : A → Bool) (value : A → B) (xs : List A) (i : ℕ) (x : A) → i < length xs → x ≡ get_or xs i x → map value (filter test (take (i + 1) xs)) ≡ map value (filter test (take i xs)) ++ map value (filter test (x ∷ []))
map_filter-one test value xs i x within is =
    ap (λ ys. map value (filter test ys)) (take-one xs i x within is)
    ∙ ap (map value) (filter-append test (take i xs) (x ∷ []))
    ∙ map-append value (filter test (take i xs)) (filter test (x ∷ []))

or-last : (a b : Bool) → (a || (b || false)) ≡ (b || a)
or-last true true = refl
or-last true false = refl
or-last false true = refl
or-last false false = refl

pub any-one : {A : Type 0} (test : A → Bool) (xs : List A) (i : ℕ) (x : A) → i < length xs → x ≡ get_or xs i x → list_any test (take (i + 1) xs) ≡ (test x || list_any test (take i xs))
any-one test xs i x within is =
    ap (list_any test) (take-one xs i x within is)
    ∙ list_any-append test (take i xs) (x ∷ [])
    ∙ or-last (list_any test (take i xs)) (test x)

-- ---- one element more, seen as something else
pub map-take : {A B : Type 0} (see : A → B) (xs : List A) (i : ℕ) (x : A) → i < length xs → x ≡ get_or xs i x → map see (take (i + 1) xs) ≡ map see (take i xs) ++ see x ∷ []
map-take see xs i x within is = ap (map see) (take-one xs i x within is) ∙ map-append see (take i xs) (x ∷ [])

pub filter-seen : {A B : Type 0} (see : A → B) (test : B → Bool) (xs : List A) (i : ℕ) (x : A) → i < length xs → x ≡ get_or xs i x → filter test (map see (take (i + 1) xs)) ≡ filter test (map see (take i xs)) ++ filter test (see x ∷ [])
filter-seen see test xs i x within is = ap (filter test) (map-take see xs i x within is) ∙ filter-append test (map see (take i xs)) (see x ∷ [])

pub map_filter-seen : {A B C : Type 0} (see : A → B) (test : B → Bool) (value : B → C) (xs : List A) (i : ℕ) (x : A) → i < length xs → x ≡ get_or xs i x → map value (filter test (map see (take (i + 1) xs))) ≡ map value (filter test (map see (take i xs))) ++ map value (filter test (see x ∷ []))
map_filter-seen see test value xs i x within is = ap (map value) (filter-seen see test xs i x within is) ∙ map-append value (filter test (map see (take i xs))) (filter test (see x ∷ []))

pub filter_map-seen : {A B C : Type 0} (see : A → B) (g : B → Option C) (xs : List A) (i : ℕ) (x : A) → i < length xs → x ≡ get_or xs i x → filter_map g (map see (take (i + 1) xs)) ≡ filter_map g (map see (take i xs)) ++ filter_map g (see x ∷ [])
filter_map-seen see g xs i x within is = ap (filter_map g) (map-take see xs i x within is) ∙ filter_map-append g (map see (take i xs)) (see x ∷ [])

pub flat_map-seen : {A B C : Type 0} (see : A → B) (g : B → List C) (xs : List A) (i : ℕ) (x : A) → i < length xs → x ≡ get_or xs i x → flat_map g (map see (take (i + 1) xs)) ≡ flat_map g (map see (take i xs)) ++ g (see x)
flat_map-seen see g xs i x within is =
    ap (flat_map g) (map-take see xs i x within is)
    ∙ flat_map-append g (map see (take i xs)) (see x ∷ [])
    ∙ ap (λ last. flat_map g (map see (take i xs)) ++ last) (append-nil (g (see x)))

pub any-seen : {A B : Type 0} (see : A → B) (test : B → Bool) (xs : List A) (i : ℕ) (x : A) → i < length xs → x ≡ get_or xs i x → list_any test (map see (take (i + 1) xs)) ≡ (test (see x) || list_any test (map see (take i xs)))
any-seen see test xs i x within is =
    ap (list_any test) (map-take see xs i x within is)
    ∙ list_any-append test (map see (take i xs)) (see x ∷ [])
    ∙ or-last (list_any test (map see (take i xs))) (test (see x))
