-- The instances that an entry is for, by their numbers.
use Rattle.std.proofs.Common.{◌≡◌, ℕ, zero, suc, ◌+◌, ◌<◌, true, false, List, [], ◌∷◌, ◌++◌, length, map, take, get_or, refl, sym, ◌∙◌, ap, arith}
use Rattle.std.specs.Prelude.{Bool, ◌&&◌, cond, filter, Some, slice_get}
use Rattle.std.specs.Option.{option_map_or}
use Rattle.std.specs.Str.{bytes_eq}
use Rattle.std.specs.declared.alloc.Global.{Global}
use Rattle.std.specs.declared.vec.Vec.{Vec}
use Rattle.std.specs.Cmp.Lexicographic.{bytes_decides}
use Rattle.std.proofs.lemmas.List.{take_more}
use Rattle.vital_annotate.specs.Indexes.{found}
use Rattle.vital_annotate.specs.Instances.{CellInstance, at_path}
use Rattle.vital_annotate.specs.Keyed.{HasEntityKeys, HasKeys, fits_at, is_of}
use Rattle.vital_annotate.specs.Names.{folded}
use Rattle.vital_annotate.specs.Numbers.{numbers_where}
use Rattle.vital_annotate.specs.Parts.{begins_extended, inner, part_is, parts_are}
use Rattle.vital_annotate.specs.PathKeys.{label_key, labels_key, numbers_under, path_key}
use Rattle.vital_annotate.specs.declared.target.Target.{Target}
use Rattle.vital_annotate.proofs.PathKeyLemmas.{Groups, numbers_from}
use Rattle.vital_netlist.specs.Designs.{Design, labels}
use Rattle.vital_typed_cells.specs.Answers.{default_values}

-- ---- numbers of what is mapped
step-map : {A B : Type 0} (b : Bool) (n : ℕ) (x : A) (y : B) (xs : List (ℕ × A)) (ys : List (ℕ × B)) → map (λ (z : ℕ × B). z.0) ys ≡ map (λ (z : ℕ × A). z.0) xs → map (λ (z : ℕ × B). z.0) (cond b ((n, y) ∷ ys) ys) ≡ map (λ (z : ℕ × A). z.0) (cond b ((n, x) ∷ xs) xs)
step-map true n x y xs ys e = ap (λ l. n ∷ l) e
step-map false n x y xs ys e = e

from-map : {A B : Type 0} (test : B → Bool) (f : A → B) (n : ℕ) (xs : List A) → numbers_from test n (map f xs) ≡ numbers_from (λ x. test (f x)) n xs
from-map test f n [] = refl
from-map test f n (x ∷ xs) = step-map (test (f x)) n x (f x) _ _ (from-map test f (n + 1) xs)

pub where-map : {A B : Type 0} (test : B → Bool) (f : A → B) (xs : List A) → numbers_where test (map f xs) ≡ numbers_where (λ x. test (f x)) xs
where-map test f xs = from-map test f 0 xs

pub map-map : {A B C : Type 0} (g : B → C) (f : A → B) (xs : List A) → map g (map f xs) ≡ map (λ x. g (f x)) xs
map-map g f [] = refl
map-map g f (x ∷ xs) = ap (λ l. g (f x) ∷ l) (map-map g f xs)

-- ---- those of one test are among those of another that it implies
step-among : {A : Type 0} (p k f : Bool) (n : ℕ) (x : A) (at : ℕ → Bool) (ps ks : List (ℕ × A)) → f ≡ at n → f ≡ p → (p ≡ true → k ≡ true) → map (λ (z : ℕ × A). z.0) ps ≡ filter at (map (λ (z : ℕ × A). z.0) ks) → map (λ (z : ℕ × A). z.0) (cond p ((n, x) ∷ ps) ps) ≡ filter at (map (λ (z : ℕ × A). z.0) (cond k ((n, x) ∷ ks) ks))
step-among {A = A} true true f n x at ps ks here is implies e =
    let one : cond (at n) (n ∷ filter at (map (λ (z : ℕ × A). z.0) ks)) (filter at (map (λ (z : ℕ × A). z.0) ks)) ≡ n ∷ filter at (map (λ (z : ℕ × A). z.0) ks) = ap (λ b. cond b (n ∷ filter at (map (λ (z : ℕ × A). z.0) ks)) (filter at (map (λ (z : ℕ × A). z.0) ks))) (sym here ∙ is) in
    ap (λ l. n ∷ l) e ∙ sym one
step-among true false f n x at ps ks here is implies e = absurd (cc (implies refl))
step-among {A = A} false true f n x at ps ks here is implies e =
    let none : cond (at n) (n ∷ filter at (map (λ (z : ℕ × A). z.0) ks)) (filter at (map (λ (z : ℕ × A). z.0) ks)) ≡ filter at (map (λ (z : ℕ × A). z.0) ks) = ap (λ b. cond b (n ∷ filter at (map (λ (z : ℕ × A). z.0) ks)) (filter at (map (λ (z : ℕ × A). z.0) ks))) (sym here ∙ is) in
    e ∙ sym none
step-among false false f n x at ps ks here is implies e = e

from-among : {A : Type 0} (p k : A → Bool) (at : ℕ → Bool) (n : ℕ) (xs : List A) → ((x : A) → p x ≡ true → k x ≡ true) → ((j : ℕ) (x : A) → slice_get xs j ≡ Some x → at (n + j) ≡ p x) → numbers_from p n xs ≡ filter at (numbers_from k n xs)
from-among p k at n [] implies same = refl
from-among p k at n (x ∷ xs) implies same =
    let zero-more : n ≡ n + 0 = omega arith in
    step-among (p x) (k x) (at n) n x at _ _ refl (ap at zero-more ∙ same 0 x refl) (implies x)
    (from-among p k at (n + 1) xs implies (λ j y h. let moved : (n + 1) + j ≡ n + suc j = omega arith in ap at moved ∙ same (suc j) y h))

pub where-among : {A : Type 0} (p k : A → Bool) (xs : List A) → ((x : A) → p x ≡ true → k x ≡ true) → numbers_where p xs ≡ filter (λ n. option_map_or p (slice_get xs n) false) (numbers_where k xs)
where-among p k xs implies =
    from-among p k (λ n. option_map_or p (slice_get xs n) false) 0 xs implies (λ j x h. let same : 0 + j ≡ j = omega arith in ap (λ n. option_map_or p (slice_get xs n) false) same ∙ ap (λ o. option_map_or p o false) h)

-- ---- a path that fits has the key of the labels
extended-key : (l p : List ℕ) (b : Bool) → cond b (bytes_eq (inner l) p) (bytes_eq l (folded p)) ≡ true → cond b (folded (inner l)) l ≡ folded p
extended-key l p true h = ap folded ((bytes_decides (inner l) p).0 h)
extended-key l p false h = (bytes_decides l (folded p)).0 h

part-key : (l p : List ℕ) → part_is l p ≡ true → label_key l ≡ folded p
unfolding part_is
part-key l p h = extended-key l p (begins_extended l) h

both-first : (a b : Bool) → (a && b) ≡ true → a ≡ true
both-first true b h = refl
both-first false b h = absurd (cc)

both-rest : (a b : Bool) → (a && b) ≡ true → b ≡ true
both-rest true b h = h
both-rest false b h = absurd (cc)

fits-key : (ls ps : List (List ℕ)) → parts_are ls ps ≡ true → labels_key ls ≡ path_key ps
fits-key [] [] h = refl
fits-key [] (p ∷ ps) h = absurd (cc)
fits-key (l ∷ ls) [] h = absurd (cc)
fits-key (l ∷ ls) (p ∷ ps) h =
    let first = part-key l p (both-first (part_is l p) (parts_are ls ps) h) in
    let rest = fits-key ls ps (both-rest (part_is l p) (parts_are ls ps) h) in
    ap (λ k. (k ++ 46 ∷ []) ++ labels_key ls) first ∙ ap (λ k. (folded p ++ 46 ∷ []) ++ k) rest

pub at-key : (is : List CellInstance) (path : List (List ℕ)) → at_path is path ≡ take 1 (filter (fits_at is path) (numbers_where (λ i. bytes_eq (labels_key i.labels) (path_key path)) is))
at-key is path =
    ap (take 1)
    (where-among (λ (i : CellInstance). parts_are i.labels path) (λ (i : CellInstance). bytes_eq (labels_key i.labels) (path_key path)) is
    (λ i h. (bytes_decides (labels_key i.labels) (path_key path)).1 (fits-key i.labels path h)))

-- ---- an entity that is meant has the key of its name
pub at-entity : (is : List CellInstance) (entity : List ℕ) → numbers_where (λ i. part_is i.entity entity) is ≡ filter (is_of is entity) (numbers_where (λ i. bytes_eq (label_key i.entity) (folded entity)) is)
at-entity is entity =
    where-among (λ (i : CellInstance). part_is i.entity entity) (λ (i : CellInstance). bytes_eq (label_key i.entity) (folded entity)) is
    (λ i h. (bytes_decides (label_key i.entity) (folded entity)).1 (part-key i.entity entity h))

-- ---- those that pass a test
filter-push : (at : ℕ → Bool) (xs : List ℕ) (x : ℕ) → filter at (xs ++ x ∷ []) ≡ filter at xs ++ cond (at x) (x ∷ []) []
filter-push at [] x = refl
filter-push at (y ∷ ys) x = step (at y) (filter-push at ys x)
  where
    step : (b : Bool) → filter at (ys ++ x ∷ []) ≡ filter at ys ++ cond (at x) (x ∷ []) [] → cond b (y ∷ filter at (ys ++ x ∷ [])) (filter at (ys ++ x ∷ [])) ≡ cond b (y ∷ filter at ys) (filter at ys) ++ cond (at x) (x ∷ []) []
    step true e = ap (λ l. y ∷ l) e
    step false e = e

pub some-more : (at : ℕ → Bool) (xs : List ℕ) (i : ℕ) (old new : List ℕ) (b : Bool) → i < length xs → b ≡ at (get_or xs i 0) → old ≡ filter at (take i xs) → new ≡ old ++ cond b (get_or xs i 0 ∷ []) [] → new ≡ filter at (take (i + 1) xs)
some-more at xs i old new b inside passes before more =
    more
    ∙ ap (λ l. l ++ cond b (get_or xs i 0 ∷ []) []) before
    ∙ ap (λ c. filter at (take i xs) ++ cond c (get_or xs i 0 ∷ []) []) passes
    ∙ sym (filter-push at (take i xs) (get_or xs i 0))
    ∙ sym (ap (filter at) (take_more xs i 0 inside))

-- ---- the first one that fits
pub none-more : (at : ℕ → Bool) (xs : List ℕ) (i : ℕ) → i < length xs → filter at (take i xs) ≡ [] → at (get_or xs i 0) ≡ false → filter at (take (i + 1) xs) ≡ []
none-more at xs i inside none here =
    ap (filter at) (take_more xs i 0 inside)
    ∙ filter-push at (take i xs) (get_or xs i 0)
    ∙ ap (λ l. l ++ cond (at (get_or xs i 0)) (get_or xs i 0 ∷ []) []) none
    ∙ ap (λ b. cond b (get_or xs i 0 ∷ []) []) here

first-step : (b : Bool) (x y : ℕ) (some all : List ℕ) → cond b (x ∷ some) some ≡ [] → (some ≡ [] → y ∷ [] ≡ take 1 all) → y ∷ [] ≡ take 1 (cond b (x ∷ all) all)
first-step true x y some all e rest = absurd (cc)
first-step false x y some all e rest = rest e

pub first-one : (at : ℕ → Bool) (xs : List ℕ) (i : ℕ) → i < length xs → filter at (take i xs) ≡ [] → at (get_or xs i 0) ≡ true → get_or xs i 0 ∷ [] ≡ take 1 (filter at xs)
first-one at [] i inside none here = absurd (omega arith)
first-one at (x ∷ xs) zero inside none here = sym (ap (λ b. take 1 (cond b (x ∷ filter at xs) (filter at xs))) here)
first-one at (x ∷ xs) (suc i) inside none here = first-step (at x) x (get_or xs i 0) _ _ none (λ e. first-one at xs i (omega arith) e here)

-- ---- what the entries of a group are for
pub has-keys : (d : Design) (ts : List Target) (ks : List (Vec ℕ Global)) (numbers : Groups) → ((key : List ℕ) → numbers_under numbers key ≡ numbers_where (λ k. bytes_eq k key) (map (λ (k : Vec ℕ Global). k.items) ks)) → map (λ (k : Vec ℕ Global). k.items) ks ≡ map (λ (t : Target). labels_key (labels d t.instance)) ts → HasKeys numbers (map (found d) ts)
has-keys d ts ks numbers h e = λ key.
    h key
    ∙ ap (numbers_where (λ k. bytes_eq k key)) e
    ∙ where-map (λ k. bytes_eq k key) (λ (t : Target). labels_key (labels d t.instance)) ts
    ∙ sym (where-map (λ (i : CellInstance). bytes_eq (labels_key i.labels) key) (found d) ts)

pub has-entity-keys : (d : Design) (ts : List Target) (ks : List (Vec ℕ Global)) (numbers : Groups) → ((key : List ℕ) → numbers_under numbers key ≡ numbers_where (λ k. bytes_eq k key) (map (λ (k : Vec ℕ Global). k.items) ks)) → map (λ (k : Vec ℕ Global). k.items) ks ≡ map (λ (t : Target). label_key t.entity.now) ts → HasEntityKeys numbers (map (found d) ts)
has-entity-keys d ts ks numbers h e = λ key.
    h key
    ∙ ap (numbers_where (λ k. bytes_eq k key)) e
    ∙ where-map (λ k. bytes_eq k key) (λ (t : Target). label_key t.entity.now) ts
    ∙ sym (where-map (λ (i : CellInstance). bytes_eq (label_key i.entity) key) (found d) ts)

pub defaults-of : (d : Design) (ts : List Target) (is : List CellInstance) → map (found d) ts ≡ is → map (λ (t : Target). default_values t.cell.now) ts ≡ map (λ (i : CellInstance). default_values i.cell) is
defaults-of d ts is h =
    sym (map-map (λ (i : CellInstance). default_values i.cell) (found d) ts)
    ∙ ap (map (λ (i : CellInstance). default_values i.cell)) h
