-- Names that differ, and values that stand beside them.
use Rattle.std.proofs.Common.{◌≡◌, ℕ, suc, zero, ◌+◌, true, false, List, [], ◌∷◌, map, get_or, refl, sym, ◌∙◌, ap, subst, arith}
use Rattle.std.specs.Prelude.{Bool, cond, position, slice_get, slice_set, is_some, unwrap_or, Some, None}
use Rattle.std.specs.List.{All, IsDistinct, AllByRecursion, position_from, zip}
use Rattle.std.specs.Str.{bytes_eq}
use Rattle.std.proofs.lemmas.Bool.{false≢true}
use Rattle.std.proofs.lemmas.Iterator.Adapters.{position_from-zero}
use Rattle.std.proofs.lemmas.List.Quantifiers.{position-Some}
use Rattle.std.proofs.lemmas.Map.Keys.{IsDistinct-head, IsDistinct-tail}
use Rattle.std.proofs.lemmas.Option.{get_or_from_slice_get, slice_get-get_or, slice_get_within}
use Rattle.std.proofs.lemmas.Slice.Eq.{bytes_eq-Decides}

-- ---- names

pub equal-names : (m n : List ℕ) → bytes_eq m n ≡ true → m ≡ n
equal-names m n e = (bytes_eq-Decides m n).0 e

pub same-name : (n : List ℕ) → bytes_eq n n ≡ true
same-name n = (bytes_eq-Decides n n).1 refl

by-cases : (b : Bool) → (b ≡ true → b ≡ false) → b ≡ false
by-cases true h = h refl
by-cases false h = refl

pub other-name : (m n : List ℕ) → bytes_eq m n ≡ false → bytes_eq n m ≡ false
other-name m n differs = by-cases (bytes_eq n m) (λ yes. absurd (false≢true (sym differs ∙ ap (λ x. bytes_eq m x) (equal-names n m yes) ∙ same-name m)))

-- The first of a name is one of the name.
pub there : (names : List (List ℕ)) (name : List ℕ) (i : ℕ) → position (λ n. bytes_eq n name) names ≡ Some i → slice_get names i ≡ Some name
there names name i is =
    let p = position-Some (λ n. bytes_eq n name) names i [] is in
    slice_get-get_or names i [] p.0 ∙ ap Some (equal-names (get_or names i []) name p.1)

pub none≢some : {A : Type 0} (x : A) → None ≡ Some x → ⊥
none≢some x is = false≢true (ap is_some is)

pub some-same : {A : Type 0} (x y : A) → Some x ≡ Some y → x ≡ y
some-same x y is = ap (λ o. unwrap_or o x) is

apart : (m : List ℕ) (ns : List (List ℕ)) (i : ℕ) (n : List ℕ) → AllByRecursion (λ y. bytes_eq m y ≡ false) ns → slice_get ns i ≡ Some n → bytes_eq m n ≡ false
apart m [] i n differs is = absurd (none≢some n is)
apart m (y ∷ ys) zero n differs is = ap (bytes_eq m) (sym (some-same y n is)) ∙ differs.0
apart m (y ∷ ys) (suc i) n differs is = apart m ys i n differs.1 is

-- ---- the number of a name

from-at : (names : List (List ℕ)) (name : List ℕ) (k i : ℕ) → IsDistinct bytes_eq names → slice_get names i ≡ Some name → position_from (λ n. bytes_eq n name) k names ≡ Some (k + i)
from-at [] name k i distinct is = absurd (none≢some name is)
from-at (n ∷ ns) name k zero distinct is =
    let found : bytes_eq n name ≡ true = ap (λ m. bytes_eq m name) (some-same n name is) ∙ same-name name in
    let same : k ≡ k + 0 = omega arith in
    ap (λ b. cond b (Some k) (position_from (λ m. bytes_eq m name) (k + 1) ns)) found ∙ ap Some same
from-at (n ∷ ns) name k (suc i) distinct is =
    let same : (k + 1) + i ≡ k + suc i = omega arith in
    ap (λ b. cond b (Some k) (position_from (λ m. bytes_eq m name) (k + 1) ns)) (apart n ns i name (IsDistinct-head bytes_eq n ns distinct) is)
    ∙ from-at ns name (k + 1) i (IsDistinct-tail bytes_eq n ns distinct) is
    ∙ ap Some same

-- Where names differ, one is the first of its name.
pub first-at : (names : List (List ℕ)) (name : List ℕ) (i : ℕ) → IsDistinct bytes_eq names → slice_get names i ≡ Some name → position (λ n. bytes_eq n name) names ≡ Some i
first-at names name i distinct is =
    let same : 0 + i ≡ i = omega arith in
    position_from-zero (λ n. bytes_eq n name) names ∙ from-at names name 0 i distinct is ∙ ap Some same

-- ---- a value that changes

-- The one of a name is changed.
abbrev pub changed_at : {R : Type 0} → (R → List ℕ) → List ℕ → (R → R) → List R → List R
changed_at name_of name change rs = map (λ r. cond (bytes_eq (name_of r) name) (change r) r) rs

unchanged : {A R : Type 0} (make : (List ℕ × A) → R) (name_of : R → List ℕ) (change : R → R) → ((p : List ℕ × A) → name_of (make p) ≡ p.0) → (name : List ℕ) (names : List (List ℕ)) (xs : List A) → AllByRecursion (λ n. bytes_eq name n ≡ false) names → changed_at name_of name change (map make (zip names xs)) ≡ map make (zip names xs)
unchanged make name_of change keeps name [] xs none = refl
unchanged make name_of change keeps name (n ∷ ns) [] none = refl
unchanged make name_of change keeps name (n ∷ ns) (x ∷ xs) none =
    let r = make (n, x) in
    let same : bytes_eq (name_of r) name ≡ false = ap (λ m. bytes_eq m name) (keeps (n, x)) ∙ other-name name n none.0 in
    ap (λ b. cond b (change r) r ∷ changed_at name_of name change (map make (zip ns xs))) same
    ∙ ap (λ rs. r ∷ rs) (unchanged make name_of change keeps name ns xs none.1)

pub zips-changed : {A R : Type 0} (make : (List ℕ × A) → R) (name_of : R → List ℕ) (change : R → R) → ((p : List ℕ × A) → name_of (make p) ≡ p.0) → (name : List ℕ) (names : List (List ℕ)) (xs : List A) (i : ℕ) (x y : A) → IsDistinct bytes_eq names → slice_get names i ≡ Some name → slice_get xs i ≡ Some x → make (name, y) ≡ change (make (name, x)) → map make (zip names (slice_set xs i y)) ≡ changed_at name_of name change (map make (zip names xs))
zips-changed make name_of change keeps name [] xs i x y distinct at-name at-value same = absurd (none≢some name at-name)
zips-changed make name_of change keeps name (n ∷ ns) [] i x y distinct at-name at-value same = absurd (none≢some x at-value)
zips-changed make name_of change keeps name (n ∷ ns) (z ∷ zs) zero x y distinct at-name at-value same =
    let is : n ≡ name = some-same n name at-name in
    let was : z ≡ x = some-same z x at-value in
    let r = make (n, z) in
    let found : bytes_eq (name_of r) name ≡ true = ap (λ m. bytes_eq m name) (keeps (n, z) ∙ is) ∙ same-name name in
    let none : AllByRecursion (λ m. bytes_eq name m ≡ false) ns = subst (λ m. AllByRecursion (λ k. bytes_eq m k ≡ false) ns) is (IsDistinct-head bytes_eq n ns distinct) in
    ap (λ m. make (m, y) ∷ map make (zip ns zs)) is
    ∙ ap (λ q. q ∷ map make (zip ns zs)) (same ∙ ap (λ p. change (make p)) (ap (λ m. (m, x)) (sym is) ∙ ap (λ w. (n, w)) (sym was)))
    ∙ ap (λ b. cond b (change r) r ∷ map make (zip ns zs)) (sym found)
    ∙ ap (λ rs. cond (bytes_eq (name_of r) name) (change r) r ∷ rs) (sym (unchanged make name_of change keeps name ns zs none))
zips-changed make name_of change keeps name (n ∷ ns) (z ∷ zs) (suc i) x y distinct at-name at-value same =
    let r = make (n, z) in
    let other : bytes_eq (name_of r) name ≡ false = ap (λ m. bytes_eq m name) (keeps (n, z)) ∙ apart n ns i name (IsDistinct-head bytes_eq n ns distinct) at-name in
    ap (λ rs. r ∷ rs) (zips-changed make name_of change keeps name ns zs i x y (IsDistinct-tail bytes_eq n ns distinct) at-name at-value same)
    ∙ ap (λ b. cond b (change r) r ∷ changed_at name_of name change (map make (zip ns zs))) (sym other)

-- A value that changes and is seen the same.
pub seen-same : {A B : Type 0} (see : A → B) (xs : List A) (i : ℕ) (x y : A) → slice_get xs i ≡ Some x → see y ≡ see x → map see (slice_set xs i y) ≡ map see xs
seen-same see [] i x y at same = refl
seen-same see (z ∷ zs) zero x y at same = ap (λ s. s ∷ map see zs) (same ∙ ap see (sym (some-same z x at)))
seen-same see (z ∷ zs) (suc i) x y at same = ap (λ ss. see z ∷ ss) (seen-same see zs i x y at same)

pub map-at : {A B : Type 0} (see : A → B) (xs : List A) (i : ℕ) (x : A) → slice_get xs i ≡ Some x → slice_get (map see xs) i ≡ Some (see x)
map-at see [] i x at = absurd (none≢some x at)
map-at see (z ∷ zs) zero x at = ap (λ y. Some (see y)) (some-same z x at)
map-at see (z ∷ zs) (suc i) x at = map-at see zs i x at

pub all-at : {A : Type 0} (P : A → Type 0) (xs : List A) (i : ℕ) (x : A) → All P xs → slice_get xs i ≡ Some x → P x
all-at P xs i x all is = subst P (get_or_from_slice_get xs i x x is) (all i x (slice_get_within xs i x is))
