-- One item of a list after the other.
use Rattle.std.proofs.Common.{◌≡◌, ◌∙◌, ℕ, ◌+◌, ◌<◌, ◌≤◌, zero, suc, List, [], ◌∷◌, ◌++◌, length, drop, get_or, Some, None, Option, refl, ap, sym, subst, arith}
use Rattle.std.specs.List.{cons_option, filter_map, flat_map, fold, zip}
use Rattle.std.specs.Prelude.{All, IfSome, slice_get}
use Rattle.std.proofs.lemmas.List.{drop_all, drop_more}
use Rattle.std.proofs.lemmas.Option.{get_or_from_slice_get, slice_get-get_or, slice_get_within}

pub drop_at : {X : Type 0} (xs : List X) (i : ℕ) (x : X) → slice_get xs i ≡ Some x → drop i xs ≡ x ∷ drop (i + 1) xs
drop_at xs i x e =
    drop_more xs i x (slice_get_within xs i x e) ∙ ap (λ y. y ∷ drop (i + 1) xs) (get_or_from_slice_get xs i x x e)

-- a text of an item each
pub text_at : {X : Type 0} (text : X → List ℕ) (xs : List X) (i : ℕ) (x : X) → slice_get xs i ≡ Some x → flat_map text (drop i xs) ≡ text x ++ flat_map text (drop (i + 1) xs)
text_at text xs i x e = ap (flat_map text) (drop_at xs i x e)

pub text_none : {X : Type 0} (text : X → List ℕ) (xs : List X) (i : ℕ) → length xs ≤ i → flat_map text (drop i xs) ≡ []
text_none text xs i le = ap (flat_map text) (drop_all i xs le)

pub fold_at : {A B : Type 0} (f : B → A → B) (b : B) (xs : List A) (i : ℕ) (x : A) → slice_get xs i ≡ Some x → fold f b (drop i xs) ≡ fold f (f b x) (drop (i + 1) xs)
fold_at f b xs i x e = ap (fold f b) (drop_at xs i x e)

pub fold_none : {A B : Type 0} (f : B → A → B) (b : B) (xs : List A) (i : ℕ) → length xs ≤ i → fold f b (drop i xs) ≡ b
fold_none f b xs i le = ap (fold f b) (drop_all i xs le)

-- items that are picked by their numbers
pub picked_at : {X : Type 0} (all : List X) (numbers : List ℕ) (i number : ℕ) (x : X) → slice_get numbers i ≡ Some number → slice_get all number ≡ Some x
    → filter_map (slice_get all) (drop i numbers) ≡ x ∷ filter_map (slice_get all) (drop (i + 1) numbers)
picked_at all numbers i number x e there =
    ap (filter_map (slice_get all)) (drop_at numbers i number e) ∙ ap (λ o. cons_option o (filter_map (slice_get all) (drop (i + 1) numbers))) there

pub picked_none : {X : Type 0} (all : List X) (numbers : List ℕ) (i : ℕ) → length numbers ≤ i → filter_map (slice_get all) (drop i numbers) ≡ []
picked_none all numbers i le = ap (filter_map (slice_get all)) (drop_all i numbers le)

pub zip_at : {A B : Type 0} (xs : List A) (ys : List B) (i : ℕ) (x : A) (y : B) → slice_get xs i ≡ Some x → slice_get ys i ≡ Some y → slice_get (zip xs ys) i ≡ Some (x, y)
zip_at [] ys i x y e f = absurd cc
zip_at (a ∷ xs) [] i x y e f = absurd cc
zip_at (a ∷ xs) (b ∷ ys) zero x y e f =
    let first : a ≡ x = cc in
    let second : b ≡ y = cc in
    ap (λ z. Some (z, b)) first ∙ ap (λ z. Some (x, z)) second
zip_at (a ∷ xs) (b ∷ ys) (suc i) x y e f = zip_at xs ys i x y e f

pub zip_none : {A B : Type 0} (xs : List A) (ys : List B) (i : ℕ) → length xs ≤ i → length (zip xs ys) ≤ i
zip_none [] ys i le = omega arith
zip_none (a ∷ xs) [] i le = omega arith
zip_none (a ∷ xs) (b ∷ ys) zero le = absurd (omega (arith, le))
zip_none (a ∷ xs) (b ∷ ys) (suc i) le = omega (arith, zip_none xs ys i (omega (arith, le)))

-- an item of a list of numbers, as code reads it
pub record Item (ys : List ℕ) (i most number : ℕ) : Type 0 where
  pub below : number < most
  pub there : slice_get ys i ≡ Some number

pub item_of : (xs ys : List ℕ) (i most : ℕ) → xs ≡ ys → i < length xs → All (λ n. n < most) ys → Item ys i most (get_or xs i 0)
item_of xs ys i most same lt all =
    let within : i < length ys = subst (λ (zs : List ℕ). i < length zs) same lt in
    let is : get_or xs i 0 ≡ get_or ys i 0 = ap (λ (zs : List ℕ). get_or zs i 0) same in
    record {
      below = subst (λ (n : ℕ). n < most) (sym is) (all i 0 within);
      there = slice_get-get_or ys i 0 within ∙ ap (λ (n : ℕ). Some n) (sym is);
    }

pub some_at : {X : Type 0} (xs : List X) (k : ℕ) → k < length xs → (x : X) × (slice_get xs k ≡ Some x)
some_at [] k lt = absurd (omega (arith, lt))
some_at (x ∷ xs) zero lt = (x, refl)
some_at (x ∷ xs) (suc k) lt = some_at xs k (omega (arith, lt))

pub if_some_at : {X : Type 0} (P : X → Type 0) (o : Option X) (x : X) → IfSome o P → o ≡ Some x → P x
if_some_at P None x h e = absurd cc
if_some_at P (Some y) x h e = let same : y ≡ x = cc in subst P same h
