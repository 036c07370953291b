-- The bits of ports and of signals.
use Rattle.std.proofs.Common.{◌≡◌, ℕ, zero, suc, ◌+◌, ◌<◌, true, false, List, [], ◌∷◌, ◌++◌, length, take, drop, get_or, map, min, refl, sym, ap, ◌∙◌, arith, append_assoc, append-nil}
use Rattle.std.specs.Prelude.{Bool, cond, filter}
use Rattle.std.specs.List.{enumerate_from}
use Rattle.std.proofs.lemmas.List.{length-map, length-take-le}
use Rattle.vital_connections.specs.Objects.{Object, bits_of_all, lent, whole_bits}
use Rattle.vital_connections.specs.declared.object.Object.{Object as Object'}
use Rattle.vital_nodes.proofs.Lists.{map-take}

-- ---- tests

pub same-filter : {A : Type 0} (p q : A → Bool) (xs : List A) → ((x : A) → p x ≡ q x) → filter p xs ≡ filter q xs
same-filter p q xs same = ap (λ t. filter t xs) (λ i x. same x i)

pub filter-map : {A B : Type 0} (p : B → Bool) (f : A → B) (xs : List A) → filter p (map f xs) ≡ map f (filter (λ x. p (f x)) xs)
filter-map p f [] = refl
filter-map {A} p f (x ∷ xs) = step (p (f x)) (filter-map p f xs)
  where
    step : (b : Bool) → filter p (map f xs) ≡ map f (filter (λ y. p (f y)) xs) → cond b (f x ∷ filter p (map f xs)) (filter p (map f xs)) ≡ map f (cond b (x ∷ filter (λ y. p (f y)) xs) (filter (λ y. p (f y)) xs))
    step true e = ap (λ ys. f x ∷ ys) e
    step false e = e

pub all-pass : {A : Type 0} (p : A → Bool) (xs : List A) → ((x : A) → p x ≡ true) → filter p xs ≡ xs
all-pass p [] h = refl
all-pass p (x ∷ xs) h = ap (λ b. cond b (x ∷ filter p xs) (filter p xs)) (h x) ∙ ap (λ ys. x ∷ ys) (all-pass p xs h)

-- ---- ports, and what stands behind them

number-more : (k n : ℕ) → k + 1 + n ≡ k + suc n
number-more k n = omega arith

number-none : (k : ℕ) → k ≡ k + 0
number-none k = omega arith

bits-from : (k n : ℕ) (os : List Object) → bits_of_all (enumerate_from k os) ≡ bits_of_all (enumerate_from k (take n os)) ++ bits_of_all (enumerate_from (k + n) (drop n os))
bits-from k zero os = ap (λ m. bits_of_all (enumerate_from m os)) (number-none k)
bits-from k (suc n) [] = refl
bits-from k (suc n) (o ∷ os) =
    ap (λ bs. whole_bits (k, o) ++ bs) (bits-from (k + 1) n os ∙ ap (λ m. bits_of_all (enumerate_from (k + 1) (take n os)) ++ bits_of_all (enumerate_from m (drop n os))) (number-more k n))
    ∙ sym (append_assoc (whole_bits (k, o)) (bits_of_all (enumerate_from (k + 1) (take n os))) (bits_of_all (enumerate_from (k + suc n) (drop n os))))

zero-plus : (n : ℕ) → 0 + n ≡ n
zero-plus n = omega arith

-- all bits are those of the first so many, and then those of the others
pub bits_parted : (n : ℕ) (os : List Object) → bits_of_all (enumerate_from 0 os) ≡ bits_of_all (enumerate_from 0 (take n os)) ++ bits_of_all (enumerate_from n (drop n os))
bits_parted n os = bits-from 0 n os ∙ ap (λ m. bits_of_all (enumerate_from 0 (take n os)) ++ bits_of_all (enumerate_from m (drop n os))) (zero-plus n)

-- ---- where there may be fewer than so many

min-none : (m : ℕ) → min 0 m ≡ 0
min-none m = omega arith

min-zero : (m : ℕ) → min m 0 ≡ 0
min-zero m = omega arith

min-more : (n m : ℕ) → min (suc n) (suc m) ≡ suc (min n m)
min-more n m = omega arith

pub take_min : {A : Type 0} (n : ℕ) (xs : List A) → take (min n (length xs)) xs ≡ take n xs
take_min zero xs = ap (λ m. take m xs) (min-none (length xs))
take_min (suc n) [] = ap (λ m. take m []) (min-zero (suc n))
take_min (suc n) (x ∷ xs) = ap (λ m. take m (x ∷ xs)) (min-more n (length xs)) ∙ ap (λ ys. x ∷ ys) (take_min n xs)

pub rest_min : {A : Type 0} (n k : ℕ) (xs : List A) → enumerate_from (k + min n (length xs)) (drop (min n (length xs)) xs) ≡ enumerate_from (k + n) (drop n xs)
rest_min zero k xs = ap (λ m. enumerate_from (k + m) (drop m xs)) (min-none (length xs))
rest_min (suc n) k [] = ap (λ m. enumerate_from (k + m) (drop m [])) (min-zero (suc n))
rest_min (suc n) k (x ∷ xs) =
    ap (λ m. enumerate_from (k + m) (drop m (x ∷ xs))) (min-more n (length xs))
    ∙ ap (λ m. enumerate_from m (drop (min n (length xs)) xs)) (sym (number-more k (min n (length xs))))
    ∙ rest_min n (k + 1) xs
    ∙ ap (λ m. enumerate_from m (drop n xs)) (number-more k n)

-- ---- one port or signal more

bits-push : (k : ℕ) (os : List Object) (o : Object) → bits_of_all (enumerate_from k (os ++ o ∷ [])) ≡ bits_of_all (enumerate_from k os) ++ whole_bits (k + length os, o)
bits-push k [] o = append-nil (whole_bits (k, o)) ∙ ap (λ m. whole_bits (m, o)) (number-none k)
bits-push k (p ∷ os) o =
    ap (λ bs. whole_bits (k, p) ++ bs) (bits-push (k + 1) os o ∙ ap (λ m. bits_of_all (enumerate_from (k + 1) os) ++ whole_bits (m, o)) (number-more k (length os)))
    ∙ sym (append_assoc (whole_bits (k, p)) (bits_of_all (enumerate_from (k + 1) os)) (whole_bits (k + suc (length os), o)))

pub bits_turn : (k n : ℕ) (os : List Object') (o : Object') → n < length os → o ≡ get_or os n o → bits_of_all (enumerate_from k (map lent (take (n + 1) os))) ≡ bits_of_all (enumerate_from k (map lent (take n os))) ++ whole_bits (k + n, lent o)
bits_turn k n os o lt is =
    let many : length (map lent (take n os)) ≡ n = length-map (take n os) lent ∙ length-take-le n os (omega (arith, lt)) in
    ap (λ ps. bits_of_all (enumerate_from k ps)) (map-take lent os n o lt is)
    ∙ bits-push k (map lent (take n os)) (lent o)
    ∙ ap (λ m. bits_of_all (enumerate_from k (map lent (take n os))) ++ whole_bits (k + m, lent o)) many
