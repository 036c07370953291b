-- Lists of names in which each stands at most as often as in others.
use Rattle.std.proofs.Common.{◌≡◌, ℕ, ◌+◌, ◌≤◌, Bool, true, false, List, [], ◌∷◌, ◌++◌, Option, Some, None, map, refl, sym, ap, ◌∙◌, subst, arith}
use Rattle.std.proofs.lemmas.List.Elements.{All-from_recursion, recursion_from_All}
use Rattle.std.proofs.lemmas.Map.Keys.{IsDistinct-head, IsDistinct-tail}
use Rattle.std.proofs.lemmas.Slice.Eq.{bytes_eq-Decides}
use Rattle.std.specs.Prelude.{All}
use Rattle.std.specs.List.{AllByRecursion, IsDistinct, cons_option, filter_map}
use Rattle.std.specs.Option.{option_map}
use Rattle.std.specs.Str.{bytes_eq}
use Rattle.vital_typed_cells.proofs.Apart.{AreApart, distinct}

-- ---- how often a name stands in a list

abbrev one : Bool → ℕ
one true = 1
one false = 0

abbrev pub once : List ℕ → List ℕ → ℕ
once n m = one (bytes_eq n m)

abbrev pub times : List ℕ → List (List ℕ) → ℕ
times n [] = 0
times n (m ∷ ms) = once n m + times n ms

abbrev pub if_there : List ℕ → Option (List ℕ) → ℕ
if_there n None = 0
if_there n (Some m) = once n m

pub times-append : (n : List ℕ) (ms ns : List (List ℕ)) → times n (ms ++ ns) ≡ times n ms + times n ns
times-append n [] ns = omega arith
times-append n (m ∷ ms) ns = omega (arith, times-append n ms ns)

pub times-put : (n : List ℕ) (o : Option (List ℕ)) (ms : List (List ℕ)) → times n (cons_option o ms) ≡ if_there n o + times n ms
times-put n None ms = omega arith
times-put n (Some m) ms = refl

-- Each name stands in a list at most as often as in another one.
pub record IsPart (ms ns : List (List ℕ)) : Type 0 where
  pub at_most : (n : List ℕ) → times n ms ≤ times n ns

-- ---- lists of which no name stands twice

once-itself : (n : List ℕ) → once n n ≡ 1
once-itself n = ap one ((bytes_eq-Decides n n).1 refl)

none-there : (n : List ℕ) (ns : List (List ℕ)) → AllByRecursion (λ m. bytes_eq n m ≡ false) ns → times n ns ≡ 0
none-there n [] all = refl
none-there n (m ∷ ms) all = let here : once n m ≡ 0 = ap one all.0 in omega (arith, none-there n ms all.1)

not-there : (n : List ℕ) (ns : List (List ℕ)) → times n ns ≡ 0 → AllByRecursion (λ m. bytes_eq n m ≡ false) ns
not-there n [] none = tt
not-there n (m ∷ ms) none = (away (bytes_eq n m) (omega arith), not-there n ms (omega arith))
  where
    away : (b : Bool) → one b ≡ 0 → b ≡ false
    away true is = absurd (omega arith)
    away false is = refl

-- A name stands once in a list behind its first name at most, where that stands nowhere else in it.
at-most-one : (n m : List ℕ) (ms : List (List ℕ)) (b : Bool) → bytes_eq n m ≡ b → times m ms ≡ 0 → times n ms ≤ 1 → one b + times n ms ≤ 1
at-most-one n m ms true is none few =
    let same : n ≡ m = (bytes_eq-Decides n m).0 is in
    let nowhere : times n ms ≡ 0 = ap (λ k. times k ms) same ∙ none in omega arith
at-most-one n m ms false is none few = omega arith

times-distinct : (n : List ℕ) (ns : List (List ℕ)) → IsDistinct bytes_eq ns → times n ns ≤ 1
times-distinct n [] apart = omega arith
times-distinct n (m ∷ ms) apart =
    at-most-one n m ms (bytes_eq n m) refl (none-there m ms (IsDistinct-head bytes_eq m ms apart)) (times-distinct n ms (IsDistinct-tail bytes_eq m ms apart))

apart-by-times : (ms : List (List ℕ)) → ((n : List ℕ) → times n ms ≤ 1) → AreApart bytes_eq ms
apart-by-times [] few = tt
apart-by-times (m ∷ ms) few = (
  not-there m ms (let here = few m in let itself = once-itself m in omega arith),
  apart-by-times ms (λ n. let here = few n in omega arith),
)

pub distinct-part : (ms ns : List (List ℕ)) → IsPart ms ns → IsDistinct bytes_eq ns → IsDistinct bytes_eq ms
distinct-part ms ns part apart = distinct ms (apart-by-times ms (λ n. let few = times-distinct n ns apart in let most = part.at_most n in omega arith))

-- ---- what holds of each

found-step : (P : List ℕ → Type 0) (n m : List ℕ) (ms : List (List ℕ)) (b : Bool) → bytes_eq n m ≡ b → 1 ≤ one b + times n ms → P m → (1 ≤ times n ms → P n) → P n
found-step P n m ms true is there first others = subst P (sym ((bytes_eq-Decides n m).0 is)) first
found-step P n m ms false is there first others = others (omega arith)

found : (P : List ℕ → Type 0) (n : List ℕ) (ns : List (List ℕ)) → 1 ≤ times n ns → AllByRecursion P ns → P n
found P n [] there all = absurd (omega arith)
found P n (m ∷ ms) there all = found-step P n m ms (bytes_eq n m) refl there all.0 (λ later. found P n ms later all.1)

each-found : (P : List ℕ → Type 0) (ms ns : List (List ℕ)) → ((n : List ℕ) → times n ms ≤ times n ns) → AllByRecursion P ns → AllByRecursion P ms
each-found P [] ns most all = tt
each-found P (m ∷ ms) ns most all = (
  found P m ns (let here = most m in let itself = once-itself m in omega arith) all,
  each-found P ms ns (λ n. let here = most n in omega arith) all,
)

pub all-part : (P : List ℕ → Type 0) (ms ns : List (List ℕ)) → IsPart ms ns → All P ns → All P ms
all-part P ms ns part all = All-from_recursion P ms (each-found P ms ns part.at_most (recursion_from_All P ns all))

-- ---- what is taken of the elements of a list

-- What two tests find at the elements of a list stands among what is found at them by a third, if it does at each element.
pub both-found : {A : Type 0} (f g h : A → Option (List ℕ)) → ((n : List ℕ) (x : A) → if_there n (f x) + if_there n (g x) ≤ if_there n (h x)) → (n : List ℕ) (xs : List A)
    → times n (filter_map f xs) + times n (filter_map g xs) ≤ times n (filter_map h xs)
both-found f g h each n [] = omega arith
both-found f g h each n (x ∷ xs) =
    let here = each n x in
    let others = both-found f g h each n xs in
    omega (arith, times-put n (f x) (filter_map f xs), times-put n (g x) (filter_map g xs), times-put n (h x) (filter_map h xs))

pub map-put : {B C : Type 0} (name : B → C) (o : Option B) (ys : List B) → map name (cons_option o ys) ≡ cons_option (option_map name o) (map name ys)
map-put name None ys = refl
map-put name (Some y) ys = refl

pub map-found : {A B C : Type 0} (name : B → C) (f : A → Option B) (xs : List A) → map name (filter_map f xs) ≡ filter_map (λ x. option_map name (f x)) xs
map-found name f [] = refl
map-found name f (x ∷ xs) = map-put name (f x) (filter_map f xs) ∙ ap (cons_option (option_map name (f x))) (map-found name f xs)

pub all-found : {A C : Type 0} (name : A → C) (xs : List A) → map name xs ≡ filter_map (λ x. Some (name x)) xs
all-found name [] = refl
all-found name (x ∷ xs) = ap (λ ys. name x ∷ ys) (all-found name xs)
