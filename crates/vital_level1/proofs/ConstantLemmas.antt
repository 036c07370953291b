-- The first constants at places, and those that a map has.
use Rattle.std.proofs.Common.{◌≡◌, ℕ, ◌+◌, ◌<◌, true, false, List, [], ◌∷◌, ◌++◌, length, take, map, get_or, refl, sym, ◌∙◌, ap, arith}
use Rattle.std.specs.Prelude.{Bool, ◌==◌, ◌&&◌, cond, slice_get, Option, Some, None}
use Rattle.std.specs.List.{cons_option, filter_map, flat_map}
use Rattle.std.specs.Option.{option_map, option_or}
use Rattle.std.proofs.lemmas.Bool.Decides.{nat_tests}
use Rattle.vital_base.specs.declared.place.Place.{Place}
use Rattle.vital_operands.specs.Faults.{is_same_place}
use Rattle.vital_nodes.proofs.Lists.{flat_map-one, map-take}

-- ---- places

and-left : (a b : Bool) → (a && b) ≡ true → a ≡ true
and-left true b h = refl
and-left false b h = h

and-right : (a b : Bool) → (a && b) ≡ true → b ≡ true
and-right true b h = h
and-right false b h = absurd (cc)

same-number : (m n : ℕ) → (m == n) ≡ true → m ≡ n
same-number m n h = grind (arith, nat_tests)

abbrev made : ℕ → ℕ → ℕ → Place
made file line column = record { file = file; line = line; column = column }

pub same_place : (a b : Place) → is_same_place a b ≡ true → a ≡ b
same_place a b h =
    let behind = and-right (a.file == b.file) ((a.line == b.line) && (a.column == b.column)) h in
    ap (λ n. made n a.line a.column) (same-number a.file b.file (and-left (a.file == b.file) ((a.line == b.line) && (a.column == b.column)) h))
    ∙ ap (λ n. made b.file n a.column) (same-number a.line b.line (and-left (a.line == b.line) (a.column == b.column) behind))
    ∙ ap (λ n. made b.file b.line n) (same-number a.column b.column (and-right (a.line == b.line) (a.column == b.column) behind))

-- ---- the first of a list

or-again : {A : Type 0} (a b c : Option A) → option_or (option_or a b) c ≡ option_or a (option_or b c)
or-again None b c = refl
or-again (Some x) b c = refl

head-cons : {A : Type 0} (o : Option A) (xs : List A) → slice_get (cons_option o xs) 0 ≡ option_or o (slice_get xs 0)
head-cons None xs = refl
head-cons (Some x) xs = refl

-- of two lists one after the other
pub first_append : {A B : Type 0} (f : A → Option B) (xs ys : List A) → slice_get (filter_map f (xs ++ ys)) 0 ≡ option_or (slice_get (filter_map f xs) 0) (slice_get (filter_map f ys) 0)
first_append f [] ys = refl
first_append f (x ∷ xs) ys =
    head-cons (f x) (filter_map f (xs ++ ys))
    ∙ ap (option_or (f x)) (first_append f xs ys)
    ∙ sym (or-again (f x) (slice_get (filter_map f xs) 0) (slice_get (filter_map f ys) 0))
    ∙ ap (λ o. option_or o (slice_get (filter_map f ys) 0)) (sym (head-cons (f x) (filter_map f xs)))

or-none : {A : Type 0} (o : Option A) → option_or o None ≡ o
or-none None = refl
or-none (Some x) = refl

-- of a list of one
first-one : {A B : Type 0} (f : A → Option B) (x : A) → slice_get (filter_map f (x ∷ [])) 0 ≡ f x
first-one f x = head-cons (f x) [] ∙ or-none (f x)

-- of one element more, behind what there was
pub first_more : {A B C : Type 0} (f : B → Option C) (see : A → B) (xs : List A) (i : ℕ) (x : A) (initial old new : Option C) → i < length xs → x ≡ get_or xs i x → old ≡ option_or initial (slice_get (filter_map f (map see (take i xs))) 0) → new ≡ option_or old (f (see x)) → new ≡ option_or initial (slice_get (filter_map f (map see (take (i + 1) xs))) 0)
first_more f see xs i x initial old new within is before put =
    let front = map see (take i xs) in
    put
    ∙ ap (λ o. option_or o (f (see x))) before
    ∙ or-again initial (slice_get (filter_map f front) 0) (f (see x))
    ∙ ap (option_or initial) (
    ap (option_or (slice_get (filter_map f front) 0)) (sym (first-one f (see x)))
    ∙ sym (first_append f front (see x ∷ []))
    ∙ ap (λ ys. slice_get (filter_map f ys) 0) (sym (map-take see xs i x within is)))

-- of the lists of elements, with those of one more
pub first_of_more : {A B C : Type 0} (f : B → Option C) (g : A → List B) (xs : List A) (i : ℕ) (x : A) (old new : Option C) → i < length xs → x ≡ get_or xs i x → old ≡ slice_get (filter_map f (flat_map g (take i xs))) 0 → new ≡ option_or old (slice_get (filter_map f (g x)) 0) → new ≡ slice_get (filter_map f (flat_map g (take (i + 1) xs))) 0
first_of_more f g xs i x old new within is before put =
    put
    ∙ ap (λ o. option_or o (slice_get (filter_map f (g x)) 0)) before
    ∙ sym (first_append f (flat_map g (take i xs)) (g x))
    ∙ ap (λ ys. slice_get (filter_map f ys) 0) (sym (flat_map-one g xs i x within is))

-- what is seen of a map with a value more
pub seen_more : {V W : Type 0} (f : V → W) (old : Option V) (b : Bool) (v : V) → option_map f (option_or old (cond b (Some v) None)) ≡ option_or (option_map f old) (cond b (Some (f v)) None)
seen_more f None true v = refl
seen_more f None false v = refl
seen_more f (Some w) b v = refl
