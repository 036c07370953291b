-- One turn of a loop over things that are numbered: what is made so far, and behind it what is made of the rest, stays the same.
use Rattle.std.proofs.Common.{◌≡◌, ℕ, zero, suc, ◌+◌, ◌<◌, ◌≤◌, Bool, true, false, cond, List, [], ◌∷◌, ◌++◌, length, drop, map, get_or, Option, Some, None, refl, sym, ap, subst, ◌∙◌, arith}
use Rattle.std.specs.List.{cons_option, enumerate_from, filter, filter_map}
use Rattle.std.proofs.lemmas.List.{append-nil, append_assoc, drop_all, drop_more}

-- ---- the first of the rest

pub rest-one : {A : Type 0} (xs : List A) (i : ℕ) (x : A) → i < length xs → x ≡ get_or xs i x → drop i xs ≡ x ∷ drop (i + 1) xs
rest-one {A} xs i x within is = drop_more xs i x within ∙ ap (λ (y : A). y ∷ drop (i + 1) xs) (sym is)

-- where the things are seen as others
pub rest-seen : {A X : Type 0} (see : A → X) (raw : List A) (xs : List X) (i : ℕ) (x : A) → map see raw ≡ xs → i < length raw → x ≡ get_or raw i x → drop i xs ≡ see x ∷ drop (i + 1) xs
rest-seen {A} {X} see raw xs i x are within is = subst (λ (ys : List X). drop i ys ≡ see x ∷ drop (i + 1) ys) are (seen raw i within is)
  where
    seen : (raw : List A) (i : ℕ) → i < length raw → x ≡ get_or raw i x → drop i (map see raw) ≡ see x ∷ drop (i + 1) (map see raw)
    seen [] i within is = absurd (omega arith)
    seen (y ∷ ys) zero within is = ap (λ (z : A). see z ∷ map see ys) (sym is)
    seen (y ∷ ys) (suc i) within is =
        let next : suc i + 1 ≡ suc (i + 1) = omega arith in
        seen ys i (omega arith) is ∙ ap (λ (n : ℕ). see x ∷ drop n (see y ∷ map see ys)) (sym next)

-- ---- what is made of all

pub map-turn : {X B : Type 0} (f : (ℕ × X) → B) (xs : List X) (i : ℕ) (x : X) (now new all : List B) → drop i xs ≡ x ∷ drop (i + 1) xs → now ++ map f (enumerate_from i (drop i xs)) ≡ all → new ≡ now ++ f (i, x) ∷ [] → new ++ map f (enumerate_from (i + 1) (drop (i + 1) xs)) ≡ all
map-turn {X} {B} f xs i x now new all one before put =
    let rest = map f (enumerate_from (i + 1) (drop (i + 1) xs)) in
    ap (λ (bs : List B). bs ++ rest) put ∙ append_assoc now (f (i, x) ∷ []) rest ∙ ap (λ (ys : List X). now ++ map f (enumerate_from i ys)) (sym one) ∙ before

pub map-end : {X B : Type 0} (f : (ℕ × X) → B) (xs : List X) (i : ℕ) (now all : List B) → length xs ≤ i → now ++ map f (enumerate_from i (drop i xs)) ≡ all → now ≡ all
map-end {X} f xs i now all le before = sym (append-nil now) ∙ ap (λ (ys : List X). now ++ map f (enumerate_from i ys)) (sym (drop_all i xs le)) ∙ before

-- ---- what is made of some

put-some : {B : Type 0} (o : Option B) (rest : List B) → cons_option o [] ++ rest ≡ cons_option o rest
put-some None rest = refl
put-some (Some b) rest = refl

pub filter_map-turn : {X B : Type 0} (g : (ℕ × X) → Option B) (xs : List X) (i : ℕ) (x : X) (now new all : List B) → drop i xs ≡ x ∷ drop (i + 1) xs → now ++ filter_map g (enumerate_from i (drop i xs)) ≡ all → new ≡ now ++ cons_option (g (i, x)) [] → new ++ filter_map g (enumerate_from (i + 1) (drop (i + 1) xs)) ≡ all
filter_map-turn {X} {B} g xs i x now new all one before put =
    let rest = filter_map g (enumerate_from (i + 1) (drop (i + 1) xs)) in
    ap (λ (bs : List B). bs ++ rest) put
    ∙ append_assoc now (cons_option (g (i, x)) []) rest
    ∙ ap (λ (bs : List B). now ++ bs) (put-some (g (i, x)) rest)
    ∙ ap (λ (ys : List X). now ++ filter_map g (enumerate_from i ys)) (sym one)
    ∙ before

pub filter_map-end : {X B : Type 0} (g : (ℕ × X) → Option B) (xs : List X) (i : ℕ) (now all : List B) → length xs ≤ i → now ++ filter_map g (enumerate_from i (drop i xs)) ≡ all → now ≡ all
filter_map-end {X} g xs i now all le before = sym (append-nil now) ∙ ap (λ (ys : List X). now ++ filter_map g (enumerate_from i ys)) (sym (drop_all i xs le)) ∙ before

-- ---- what is made of those that pass a test

put-kept : {P B : Type 0} (f : P → B) (b : Bool) (p : P) (rest : List P) → cond b (f p ∷ []) [] ++ map f rest ≡ map f (cond b (p ∷ rest) rest)
put-kept f true p rest = refl
put-kept f false p rest = refl

pub filter-turn : {X B : Type 0} (f : (ℕ × X) → B) (test : (ℕ × X) → Bool) (xs : List X) (i : ℕ) (x : X) (now new all : List B) → drop i xs ≡ x ∷ drop (i + 1) xs → now ++ map f (filter test (enumerate_from i (drop i xs))) ≡ all → new ≡ now ++ cond (test (i, x)) (f (i, x) ∷ []) [] → new ++ map f (filter test (enumerate_from (i + 1) (drop (i + 1) xs))) ≡ all
filter-turn {X} {B} f test xs i x now new all one before put =
    let rest = filter test (enumerate_from (i + 1) (drop (i + 1) xs)) in
    ap (λ (bs : List B). bs ++ map f rest) put
    ∙ append_assoc now (cond (test (i, x)) (f (i, x) ∷ []) []) (map f rest)
    ∙ ap (λ (bs : List B). now ++ bs) (put-kept f (test (i, x)) (i, x) rest)
    ∙ ap (λ (ys : List X). now ++ map f (filter test (enumerate_from i ys))) (sym one)
    ∙ before

pub filter-end : {X B : Type 0} (f : (ℕ × X) → B) (test : (ℕ × X) → Bool) (xs : List X) (i : ℕ) (now all : List B) → length xs ≤ i → now ++ map f (filter test (enumerate_from i (drop i xs))) ≡ all → now ≡ all
filter-end {X} f test xs i now all le before =
    sym (append-nil now) ∙ ap (λ (ys : List X). now ++ map f (filter test (enumerate_from i ys))) (sym (drop_all i xs le)) ∙ before
