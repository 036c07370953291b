-- Lists side by side, and a list of which one item is another.
use Rattle.std.proofs.Common.{◌≡◌, ℕ, suc, zero, ◌+◌, ◌<◌, List, [], ◌∷◌, ◌++◌, length, map, refl, sym, ◌∙◌, ap, subst, take, arith}
use Rattle.std.specs.Prelude.{slice_get, slice_set, OnOk, Option, Result, Some, None, Ok, Err}
use Rattle.std.specs.List.{All, AllZip, enumerate_from, range_with_len, zip}
use Rattle.std.specs.Option.{IfSome, IsSomeAnd}
use Rattle.std.proofs.lemmas.List.{get_or-map, length-map}
use Rattle.std.proofs.lemmas.List.FromFn.{get_or-enumerate_from, length-enumerate_from}
use Rattle.std.proofs.lemmas.Option.{get_or_from_slice_get, none-some, same_Some, slice_get-get_or, slice_get_within}
use Rattle.vital_agenda.specs.Agendas.{changed}

-- ---- options

-- What follows from an option that holds a value holds if it holds one.
pub if-some : {A : Type 0} (P : A → Type 0) (o : Option A) → ((x : A) → o ≡ Some x → P x) → IfSome o P
if-some P None h = tt
if-some P (Some x) h = h x refl

pub some-and : {A : Type 0} (P : A → Type 0) (o : Option A) (x : A) → o ≡ Some x → IsSomeAnd o P → P x
some-and P o x is h = subst (λ o. IsSomeAnd o P) is h

pub and-some : {A : Type 0} (P : A → Type 0) (o : Option A) (x : A) → o ≡ Some x → P x → IsSomeAnd o P
and-some P o x is h = subst (λ o. IsSomeAnd o P) (sym is) h

pub and-weaker : {A : Type 0} (P Q : A → Type 0) (o : Option A) → ((x : A) → P x → Q x) → IsSomeAnd o P → IsSomeAnd o Q
and-weaker P Q None weaker h = h
and-weaker P Q (Some x) weaker h = weaker x h

-- What follows from a fact follows where all went well.
pub on-ok : {T E : Type 0} (r : Result T E) (P Q : Type 0) → (P → Q) → OnOk r P → OnOk r Q
on-ok (Ok x) P Q f h = f h
on-ok (Err e) P Q f h = tt

-- ---- one item

pub set-same : {A : Type 0} (xs : List A) (i : ℕ) (x y : A) → slice_get xs i ≡ Some x → slice_get (slice_set xs i y) i ≡ Some y
set-same [] i x y is = absurd (none-some x is)
set-same (a ∷ xs) zero x y is = refl
set-same (a ∷ xs) (suc i) x y is = set-same xs i x y is

-- What holds of the item of a number, and of what one becomes where it holds of that, holds of the item of the number then.
pub and-set : {A : Type 0} (P : A → Type 0) (xs : List A) (k j : ℕ) (x y : A) → slice_get xs k ≡ Some x → (P x → P y) → IsSomeAnd (slice_get xs j) P → IsSomeAnd (slice_get (slice_set xs k y) j) P
and-set P [] k j x y is keeps h = absurd (none-some x is)
and-set P (a ∷ xs) zero zero x y is keeps h = keeps (subst P (same_Some a x is) h)
and-set P (a ∷ xs) zero (suc j) x y is keeps h = h
and-set P (a ∷ xs) (suc k) zero x y is keeps h = h
and-set P (a ∷ xs) (suc k) (suc j) x y is keeps h = and-set P xs k j x y is keeps h

pub some-within : {A : Type 0} (P : A → Type 0) (xs : List A) (i : ℕ) → IsSomeAnd (slice_get xs i) P → i < length xs
some-within P [] i h = absurd h
some-within P (a ∷ xs) zero h = omega arith
some-within P (a ∷ xs) (suc i) h = omega (arith, some-within P xs i h)

pub all-at : {A : Type 0} (P : A → Type 0) (xs : List A) (i : ℕ) (x : A) → All P xs → slice_get xs i ≡ Some x → P x
all-at P xs i x all is = subst P (get_or_from_slice_get xs i x x is) (all i x (slice_get_within xs i x is))

pub and-behind : {A : Type 0} (P : A → Type 0) (xs ys : List A) (j : ℕ) → IsSomeAnd (slice_get xs j) P → IsSomeAnd (slice_get (xs ++ ys) j) P
and-behind P [] ys j h = absurd h
and-behind P (a ∷ xs) ys zero h = h
and-behind P (a ∷ xs) ys (suc j) h = and-behind P xs ys j h

pub changed-at : {A : Type 0} (n : ℕ) (change : A → A) (xs : List A) (x : A) → slice_get xs n ≡ Some x → changed n change xs ≡ slice_set xs n (change x)
changed-at n change [] x is = absurd (none-some x is)
changed-at zero change (a ∷ xs) x is = ap (λ b. change b ∷ xs) (same_Some a x is)
changed-at (suc n) change (a ∷ xs) x is = ap (λ ys. a ∷ ys) (changed-at n change xs x is)

-- The items of the front of a list, and those of which others are made.
pub front-at : {A : Type 0} (n : ℕ) (xs : List A) (i : ℕ) (x : A) → slice_get (take n xs) i ≡ Some x → slice_get xs i ≡ Some x
front-at zero xs i x is = absurd (none-some x is)
front-at (suc n) [] i x is = absurd (none-some x is)
front-at (suc n) (a ∷ xs) zero x is = is
front-at (suc n) (a ∷ xs) (suc i) x is = front-at n xs i x is

pub mapped-at : {A B : Type 0} (f : A → B) (xs : List A) (i : ℕ) (y : B) → slice_get (map f xs) i ≡ Some y → (x : A) × (slice_get xs i ≡ Some x) × (f x ≡ y)
mapped-at f [] i y is = absurd (none-some y is)
mapped-at f (a ∷ xs) zero y is = (a, refl, same_Some (f a) y is)
mapped-at f (a ∷ xs) (suc i) y is = mapped-at f xs i y is

pub all-mapped : {A B : Type 0} (P : B → Type 0) (f : A → B) (xs : List A) → All P (map f xs) → All (λ x. P (f x)) xs
all-mapped P f xs all = λ k d within.
    let there : k < length (map f xs) = subst (λ n. k < n) (sym (length-map xs f)) within in
    subst P (get_or-map f xs k d (f d) within) (all k (f d) there)

-- ---- two lists side by side

pub zip-at : {A B C : Type 0} (f : (A × B) → C) (xs : List A) (ys : List B) (i : ℕ) (x : A) (y : B) → slice_get xs i ≡ Some x → slice_get ys i ≡ Some y → slice_get (map f (zip xs ys)) i ≡ Some (f (x, y))
zip-at f [] ys i x y at-x at-y = absurd (none-some x at-x)
zip-at f (a ∷ xs) [] i x y at-x at-y = absurd (none-some y at-y)
zip-at f (a ∷ xs) (b ∷ ys) zero x y at-x at-y = ap (λ c. Some (f (c, b))) (same_Some a x at-x) ∙ ap (λ c. Some (f (x, c))) (same_Some b y at-y)
zip-at f (a ∷ xs) (b ∷ ys) (suc i) x y at-x at-y = zip-at f xs ys i x y at-x at-y

pub zip-set : {A B C : Type 0} (f : (A × B) → C) (xs : List A) (ys : List B) (i : ℕ) (x : A) (y : B) → slice_get xs i ≡ Some x → map f (zip xs (slice_set ys i y)) ≡ slice_set (map f (zip xs ys)) i (f (x, y))
zip-set f [] ys i x y at-x = absurd (none-some x at-x)
zip-set f (a ∷ xs) [] i x y at-x = refl
zip-set f (a ∷ xs) (b ∷ ys) zero x y at-x = ap (λ c. f (c, y) ∷ map f (zip xs ys)) (same_Some a x at-x)
zip-set f (a ∷ xs) (b ∷ ys) (suc i) x y at-x = ap (λ cs. f (a, b) ∷ cs) (zip-set f xs ys i x y at-x)

pub zipped-at : {A B : Type 0} (R : A → B → Type 0) (xs : List A) (ys : List B) (i : ℕ) (x : A) → AllZip R xs ys → slice_get xs i ≡ Some x → (y : B) × (slice_get ys i ≡ Some y) × R x y
zipped-at R [] ys i x all is = absurd (none-some x is)
zipped-at R (a ∷ xs) [] i x all is = absurd all
zipped-at R (a ∷ xs) (b ∷ ys) zero x all is = (b, refl, subst (λ c. R c b) (same_Some a x is) all.0)
zipped-at R (a ∷ xs) (b ∷ ys) (suc i) x all is = zipped-at R xs ys i x all.1 is

pub zipped-back : {A B : Type 0} (R : A → B → Type 0) (xs : List A) (ys : List B) (i : ℕ) (y : B) → AllZip R xs ys → slice_get ys i ≡ Some y → (x : A) × (slice_get xs i ≡ Some x) × R x y
zipped-back R xs [] i y all is = absurd (none-some y is)
zipped-back R [] (b ∷ ys) i y all is = absurd all
zipped-back R (a ∷ xs) (b ∷ ys) zero y all is = (a, refl, subst (λ c. R a c) (same_Some b y is) all.0)
zipped-back R (a ∷ xs) (b ∷ ys) (suc i) y all is = zipped-back R xs ys i y all.1 is

pub zipped-set : {A B : Type 0} (R : A → B → Type 0) (xs : List A) (ys : List B) (i : ℕ) (x : A) (y : B) → AllZip R xs ys → slice_get xs i ≡ Some x → R x y → AllZip R xs (slice_set ys i y)
zipped-set R [] ys i x y all is h = absurd (none-some x is)
zipped-set R (a ∷ xs) [] i x y all is h = all
zipped-set R (a ∷ xs) (b ∷ ys) zero x y all is h = (subst (λ c. R c y) (sym (same_Some a x is)) h, all.1)
zipped-set R (a ∷ xs) (b ∷ ys) (suc i) x y all is h = (all.0, zipped-set R xs ys i x y all.1 is h)

pub zipped-weaker : {A B : Type 0} (R Q : A → B → Type 0) → ((x : A) (y : B) → R x y → Q x y) → (xs : List A) (ys : List B) → AllZip R xs ys → AllZip Q xs ys
zipped-weaker R Q weaker [] [] all = tt
zipped-weaker R Q weaker [] (b ∷ ys) all = absurd all
zipped-weaker R Q weaker (a ∷ xs) [] all = absurd all
zipped-weaker R Q weaker (a ∷ xs) (b ∷ ys) all = (weaker a b all.0, zipped-weaker R Q weaker xs ys all.1)

pub zipped-made : {A B C : Type 0} (R : A → B → Type 0) (f : (A × B) → C) (g : A → C) → ((x : A) (y : B) → R x y → f (x, y) ≡ g x) → (xs : List A) (ys : List B) → AllZip R xs ys → map f (zip xs ys) ≡ map g xs
zipped-made R f g made [] [] all = refl
zipped-made R f g made [] (b ∷ ys) all = absurd all
zipped-made R f g made (a ∷ xs) [] all = absurd all
zipped-made R f g made (a ∷ xs) (b ∷ ys) all = ap (λ c. c ∷ map f (zip xs ys)) (made a b all.0) ∙ ap (λ cs. g a ∷ cs) (zipped-made R f g made xs ys all.1)

pub zipped-more : {A B : Type 0} (R : A → B → Type 0) (xs : List A) (ys : List B) (x : A) (y : B) → AllZip R xs ys → R x y → AllZip R (xs ++ x ∷ []) (ys ++ y ∷ [])
zipped-more R [] [] x y all h = (h, tt)
zipped-more R [] (b ∷ ys) x y all h = absurd all
zipped-more R (a ∷ xs) [] x y all h = absurd all
zipped-more R (a ∷ xs) (b ∷ ys) x y all h = (all.0, zipped-more R xs ys x y all.1 h)

-- ---- items with their numbers

pub numbered-more : {A : Type 0} (n : ℕ) (xs : List A) (x : A) → enumerate_from n (xs ++ x ∷ []) ≡ enumerate_from n xs ++ (n + length xs, x) ∷ []
numbered-more n [] x = let same : n ≡ n + 0 = omega arith in ap (λ m. (m, x) ∷ []) same
numbered-more n (a ∷ xs) x =
    let same : (n + 1) + length xs ≡ n + suc (length xs) = omega arith in
    ap (λ ys. (n, a) ∷ ys) (numbered-more (n + 1) xs x ∙ ap (λ m. enumerate_from (n + 1) xs ++ (m, x) ∷ []) same)

-- Each item stands at its number.
pub numbered : {A : Type 0} (xs : List A) → All (λ p. slice_get xs p.0 ≡ Some p.1) (enumerate_from 0 xs)
numbered xs = λ k d within.
    let there : k < length xs = omega (arith, length-enumerate_from 0 xs, within) in
    let same : k ≡ 0 + k = omega arith in
    subst (λ p. slice_get xs p.0 ≡ Some p.1) (sym (get_or-enumerate_from 0 xs k d there)) (ap (λ i. slice_get xs i) (sym same) ∙ slice_get-get_or xs k d.1 there)

pub numbered-at : {A : Type 0} (n : ℕ) (xs : List A) (k : ℕ) (x : A) → slice_get xs k ≡ Some x → slice_get (enumerate_from n xs) k ≡ Some (n + k, x)
numbered-at n [] k x is = absurd (none-some x is)
numbered-at n (a ∷ xs) zero x is = let same : n ≡ n + 0 = omega arith in ap (λ m. Some (m, a)) same ∙ ap (λ b. Some (n + 0, b)) (same_Some a x is)
numbered-at n (a ∷ xs) (suc k) x is = let same : (n + 1) + k ≡ n + suc k = omega arith in numbered-at (n + 1) xs k x is ∙ ap (λ m. Some (m, x)) same

pub numbered-first : {A : Type 0} (xs : List A) (k : ℕ) (x : A) → slice_get xs k ≡ Some x → slice_get (enumerate_from 0 xs) k ≡ Some (k, x)
numbered-first xs k x is = let same : 0 + k ≡ k = omega arith in numbered-at 0 xs k x is ∙ ap (λ m. Some (m, x)) same

-- What is made of the numbers of items alone.
pub numbers-alone : {A B : Type 0} (f : ℕ → B) (n : ℕ) (xs : List A) → map (λ p. f p.0) (enumerate_from n xs) ≡ map f (range_with_len n (length xs))
numbers-alone f n [] = refl
numbers-alone f n (a ∷ xs) = ap (λ ys. f n ∷ ys) (numbers-alone f (n + 1) xs)

-- ---- lists of lists

pub map-map : {A B C : Type 0} (f : B → C) (g : A → B) (xs : List A) → map f (map g xs) ≡ map (λ x. f (g x)) xs
map-map f g [] = refl
map-map f g (x ∷ xs) = ap (λ ys. f (g x) ∷ ys) (map-map f g xs)
