-- Lists of which each element, or each pair, holds to something.
use Rattle.std.proofs.Common.{◌≡◌, true, false, List, [], ◌∷◌, ◌++◌, refl, inl, inr}
use Rattle.std.specs.Prelude.{Bool, ◌||◌, ◌&&◌, ◌⊎◌}
use Rattle.std.specs.List.{AllByRecursion, AllZip, list_all, list_any}
use Rattle.std.proofs.lemmas.Bool.{false≢true}

-- ---- tests

pub either : (a b : Bool) → (a || b) ≡ true → (a ≡ true) ⊎ (b ≡ true)
either true b is = inl refl
either false b is = inr is

pub first-or : (a b : Bool) → a ≡ true → (a || b) ≡ true
first-or true b is = refl
first-or false b is = absurd (false≢true is)

pub second-or : (a b : Bool) → b ≡ true → (a || b) ≡ true
second-or true b is = refl
second-or false b is = is

pub and-more : {a b c d : Bool} → (a ≡ true → c ≡ true) → (b ≡ true → d ≡ true) → (a && b) ≡ true → (c && d) ≡ true
and-more {a} {b} {c} {d} first second is = joined c d (first (first-is a b is)) (second (second-is a b is))
  where
    first-is : (x y : Bool) → (x && y) ≡ true → x ≡ true
    first-is true y both = refl
    first-is false y both = both

    second-is : (x y : Bool) → (x && y) ≡ true → y ≡ true
    second-is true y both = both
    second-is false y both = absurd (false≢true both)

    joined : (x y : Bool) → x ≡ true → y ≡ true → (x && y) ≡ true
    joined true y one other = other
    joined false y one other = one

pub all-more : {A : Type 0} (p q : A → Bool) → ((x : A) → p x ≡ true → q x ≡ true) → (xs : List A) → list_all p xs ≡ true → list_all q xs ≡ true
all-more p q more [] is = refl
all-more p q more (x ∷ xs) is = and-more (more x) (all-more p q more xs) is

any-behind : {A : Type 0} (test : A → Bool) (xs ys : List A) → list_any test ys ≡ true → list_any test (xs ++ ys) ≡ true
any-behind test [] ys is = is
any-behind test (x ∷ xs) ys is = second-or (test x) (list_any test (xs ++ ys)) (any-behind test xs ys is)

any-before : {A : Type 0} (test : A → Bool) (xs ys : List A) → list_any test xs ≡ true → list_any test (xs ++ ys) ≡ true
any-before test [] ys is = absurd (false≢true is)
any-before test (x ∷ xs) ys is =
    elim (either (test x) (list_any test xs) is) [
      | inl here ↦ first-or (test x) (list_any test (xs ++ ys)) here
      | inr later ↦ second-or (test x) (list_any test (xs ++ ys)) (any-before test xs ys later)
    ]

-- What one of two lists has, both have in either order.
pub any-swapped : {A : Type 0} (test : A → Bool) (xs ys : List A) → list_any test (xs ++ ys) ≡ true → list_any test (ys ++ xs) ≡ true
any-swapped test [] ys is = any-before test ys [] is
any-swapped test (x ∷ xs) ys is =
    elim (either (test x) (list_any test (xs ++ ys)) is) [
      | inl here ↦ any-behind test ys (x ∷ xs) (first-or (test x) (list_any test xs) here)
      | inr later ↦ any-inserted test x ys xs (any-swapped test xs ys later)
    ]
  where
    any-inserted : {A : Type 0} (p : A → Bool) (y : A) (us vs : List A) → list_any p (us ++ vs) ≡ true → list_any p (us ++ y ∷ vs) ≡ true
    any-inserted p y [] vs held = second-or (p y) (list_any p vs) held
    any-inserted p y (u ∷ us) vs held =
        elim (either (p u) (list_any p (us ++ vs)) held) [
          | inl here ↦ first-or (p u) (list_any p (us ++ y ∷ vs)) here
          | inr later ↦ second-or (p u) (list_any p (us ++ y ∷ vs)) (any-inserted p y us vs later)
        ]

-- ---- elements and pairs

pub all-behind : {A : Type 0} (P : A → Type 0) (xs ys : List A) → AllByRecursion P xs → AllByRecursion P ys → AllByRecursion P (xs ++ ys)
all-behind P [] ys first others = others
all-behind P (x ∷ xs) ys first others = (first.0, all-behind P xs ys first.1 others)

pub zip-push : {A B : Type 0} (R : A → B → Type 0) (xs : List A) (ys : List B) (x : A) (y : B) → AllZip R xs ys → R x y → AllZip R (xs ++ x ∷ []) (ys ++ y ∷ [])
zip-push R [] [] x y all here = (here, tt)
zip-push R [] (w ∷ ws) x y all here = absurd all
zip-push R (z ∷ zs) [] x y all here = absurd all
zip-push R (z ∷ zs) (w ∷ ws) x y all here = (all.0, zip-push R zs ws x y all.1 here)
