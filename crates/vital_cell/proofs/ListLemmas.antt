-- Lists that are made element by element.
use Rattle.std.proofs.Common.{◌≡◌, ℕ, zero, suc, ◌+◌, ◌<◌, true, false, List, [], ◌∷◌, ◌++◌, length, take, map, get_or, refl, sym, ◌∙◌, ap, subst, arith}
use Rattle.std.specs.Prelude.{Bool, ◌&&◌}
use Rattle.std.specs.List.{AllZip, enumerate_from, list_all}
use Rattle.std.proofs.lemmas.Bool.{false≢true}
use Rattle.std.specs.List.{fold}
use Rattle.std.proofs.lemmas.List.{length-take-le, take_more, map-append}
use Rattle.std.proofs.lemmas.List.Sums.{fold-append}

-- One element more.
pub map-take : {A B : Type 0} (see : A → B) (xs : List A) (i : ℕ) (x : A) → i < length xs → x ≡ get_or xs i x → map see (take (i + 1) xs) ≡ map see (take i xs) ++ see x ∷ []
map-take see xs i x within is =
    ap (map see) (take_more xs i x within ∙ ap (λ y. take i xs ++ y ∷ []) (sym is)) ∙ map-append see (take i xs) (x ∷ [])

-- A fold goes on with one element more.
pub fold-take : {A B C : Type 0} (f : C → B → C) (see : A → B) (first : C) (xs : List A) (i : ℕ) (x : A) (old new : C) → i < length xs → x ≡ get_or xs i x → old ≡ fold f first (map see (take i xs)) → new ≡ f old (see x) → new ≡ fold f first (map see (take (i + 1) xs))
fold-take f see first xs i x old new within is before put =
    put
    ∙ ap (λ y. f y (see x)) before
    ∙ sym (fold-append f first (map see (take i xs)) (see x ∷ []))
    ∙ ap (fold f first) (sym (map-take see xs i x within is))

-- A list in the making that has the images of the front of another has those of one element more.
pub map-more : {A B : Type 0} (g : A → B) (old : List B) (xs : List A) (i : ℕ) (x : A) (y : B) (new : List B) → i < length xs → x ≡ get_or xs i x → old ≡ map g (take i xs) → y ≡ g x → new ≡ old ++ y ∷ [] → new ≡ map g (take (i + 1) xs)
map-more g old xs i x y new within is before same put =
    put ∙ ap (λ ys. ys ++ y ∷ []) before ∙ ap (λ z. map g (take i xs) ++ z ∷ []) same ∙ sym (map-take g xs i x within is)

zip-push : {A B : Type 0} (R : A → B → Type 0) (xs : List A) (ys : List B) (x : A) (y : B) → AllZip R xs ys → R x y → AllZip R (xs ++ x ∷ []) (ys ++ y ∷ [])
zip-push R [] [] x y all here = (here, tt)
zip-push R [] (w ∷ ws) x y all here = absurd all
zip-push R (z ∷ zs) [] x y all here = absurd all
zip-push R (z ∷ zs) (w ∷ ws) x y all here = (all.0, zip-push R zs ws x y all.1 here)

first-of : (a b : Bool) → (a && b) ≡ true → a ≡ true
first-of true b is = refl
first-of false b is = is

second-of : (a b : Bool) → (a && b) ≡ true → b ≡ true
second-of true b is = is
second-of false b is = absurd (false≢true is)

-- What holds of the elements at each place holds with one more.
pub zip-turn : {A B : Type 0} (R : A → B → Type 0) (xs : List A) (i : ℕ) (x : A) (y : B) (now new : List B) → i < length xs → x ≡ get_or xs i x → R x y → AllZip R (take i xs) now → new ≡ now ++ y ∷ [] → AllZip R (take (i + 1) xs) new
zip-turn {A} {B} R xs i x y now new within is here before put =
    let P : List A → Type 0 = λ zs. AllZip R zs new in
    let Q : List B → Type 0 = λ zs. AllZip R (take i xs ++ x ∷ []) zs in
    subst P (sym (take_more xs i x within ∙ ap (λ z. take i xs ++ z ∷ []) (sym is))) (subst Q (sym put) (zip-push R (take i xs) now x y before here))

-- A test that all pass is passed by one of them.
pub all-item : {A : Type 0} (test : A → Bool) (xs : List A) (i : ℕ) (x : A) → i < length xs → x ≡ get_or xs i x → list_all test xs ≡ true → test x ≡ true
all-item test [] i x within is all = absurd (omega arith)
all-item test (y ∷ ys) zero x within is all = ap test is ∙ first-of (test y) (list_all test ys) all
all-item test (y ∷ ys) (suc i) x within is all = all-item test ys i x (omega arith) is (second-of (test y) (list_all test ys) all)

enumerate-more : {A : Type 0} (n : ℕ) (xs : List A) (x : A) → enumerate_from n (xs ++ x ∷ []) ≡ enumerate_from n xs ++ (n + length xs, x) ∷ []
enumerate-more n [] x =
    let same : n ≡ n + 0 = omega arith in
    ap (λ m. (m, x) ∷ []) same
enumerate-more n (y ∷ ys) x =
    let same : (n + 1) + length ys ≡ n + suc (length ys) = omega arith in
    ap (λ zs. (n, y) ∷ zs) (enumerate-more (n + 1) ys x ∙ ap (λ m. enumerate_from (n + 1) ys ++ (m, x) ∷ []) same)

-- The same where elements are numbered.
pub numbered-turn : {A B : Type 0} (R : (ℕ × A) → B → Type 0) (n : ℕ) (xs : List A) (i : ℕ) (x : A) (y : B) (now new : List B) → i < length xs → x ≡ get_or xs i x → R (n + i, x) y → AllZip R (enumerate_from n (take i xs)) now → new ≡ now ++ y ∷ [] → AllZip R (enumerate_from n (take (i + 1) xs)) new
numbered-turn {A} {B} R n xs i x y now new within is here before put =
    let long : length (take i xs) ≡ i = length-take-le i xs (omega arith) in
    let P : List (ℕ × A) → Type 0 = λ zs. AllZip R zs new in
    let Q : List B → Type 0 = λ zs. AllZip R (enumerate_from n (take i xs) ++ (n + i, x) ∷ []) zs in
    subst P (sym (ap (enumerate_from n) (take_more xs i x within ∙ ap (λ z. take i xs ++ z ∷ []) (sym is)) ∙ enumerate-more n (take i xs) x ∙ ap (λ m. enumerate_from n (take i xs) ++ (n + m, x) ∷ []) long))
    (subst Q (sym put) (zip-push R (enumerate_from n (take i xs)) now (n + i, x) y before here))
