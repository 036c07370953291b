-- Lists of which each element gives something, and elements of lists that are put together.
use Rattle.std.proofs.Common.{◌≡◌, ℕ, zero, suc, ◌+◌, ◌<◌, true, false, List, [], ◌∷◌, ◌++◌, length, map, refl, sym, ap, ◌∙◌, subst, arith}
use Rattle.std.specs.Prelude.{Bool, cond, ◌||◌, filter, position, Option, Some, None, IsSome, is_some}
use Rattle.std.specs.List.{AllByRecursion, cons_option, enumerate_from, filter_map, flat_map, list_any, range_with_len, slice_get}
use Rattle.std.specs.Option.{option_and_then}
use Rattle.std.proofs.lemmas.List.Quantifiers.{position-Some}
use Rattle.std.proofs.lemmas.Option.{none-some, same_Some}
use Rattle.vital_netlist.proofs.CellNumberLemmas.{position-some}

-- ---- each element gives something

one-more : {B : Type 0} (o : Option B) (ys : List B) (n : ℕ) → IsSome o → length ys ≡ n → length (cons_option o ys) ≡ suc n
one-more None ys n is same = absurd (cc)
one-more (Some y) ys n is same = ap suc same

pub given-length : {A B : Type 0} (f : A → Option B) (xs : List A) → AllByRecursion (λ x. IsSome (f x)) xs → length (filter_map f xs) ≡ length xs
given-length f [] all = refl
given-length f (x ∷ xs) all = one-more (f x) (filter_map f xs) (length xs) all.0 (given-length f xs all.1)

first-is : {B : Type 0} (o : Option B) (ys : List B) → IsSome o → slice_get (cons_option o ys) 0 ≡ o
first-is None ys is = absurd (cc)
first-is (Some y) ys is = refl

next-is : {B : Type 0} (o : Option B) (ys : List B) (k : ℕ) (r : Option B) → IsSome o → slice_get ys k ≡ r → slice_get (cons_option o ys) (suc k) ≡ r
next-is None ys k r is same = absurd (cc)
next-is (Some y) ys k r is same = same

pub given-get : {A B : Type 0} (f : A → Option B) (xs : List A) (k : ℕ) → AllByRecursion (λ x. IsSome (f x)) xs → slice_get (filter_map f xs) k ≡ option_and_then f (slice_get xs k)
given-get f [] k all = refl
given-get f (x ∷ xs) zero all = first-is (f x) (filter_map f xs) all.0
given-get f (x ∷ xs) (suc k) all = next-is (f x) (filter_map f xs) k (option_and_then f (slice_get xs k)) all.0 (given-get f xs k all.1)

put-each : {B : Type 0} (P : B → Type 0) (o : Option B) (ys : List B) → ((y : B) → o ≡ Some y → P y) → AllByRecursion P ys → AllByRecursion P (cons_option o ys)
put-each P None ys one all = all
put-each P (Some y) ys one all = (one y refl, all)

-- what is so of all that the elements give
pub each-given : {A B : Type 0} (P : B → Type 0) (f : A → Option B) (xs : List A) → AllByRecursion (λ x. (y : B) → f x ≡ Some y → P y) xs → AllByRecursion P (filter_map f xs)
each-given P f [] all = tt
each-given P f (x ∷ xs) all = put-each P (f x) (filter_map f xs) all.0 (each-given P f xs all.1)

-- ---- what is so of each

pub each-weaker : {A : Type 0} (P Q : A → Type 0) → ((x : A) → P x → Q x) → (xs : List A) → AllByRecursion P xs → AllByRecursion Q xs
each-weaker P Q follows [] all = tt
each-weaker P Q follows (x ∷ xs) all = (follows x all.0, each-weaker P Q follows xs all.1)

pub each-append : {A : Type 0} (P : A → Type 0) (xs ys : List A) → AllByRecursion P xs → AllByRecursion P ys → AllByRecursion P (xs ++ ys)
each-append P [] ys all more = more
each-append P (x ∷ xs) ys all more = (all.0, each-append P xs ys all.1 more)

pub each-left : {A : Type 0} (P : A → Type 0) (xs ys : List A) → AllByRecursion P (xs ++ ys) → AllByRecursion P xs
each-left P [] ys all = tt
each-left P (x ∷ xs) ys all = (all.0, each-left P xs ys all.1)

pub each-right : {A : Type 0} (P : A → Type 0) (xs ys : List A) → AllByRecursion P (xs ++ ys) → AllByRecursion P ys
each-right P [] ys all = all
each-right P (x ∷ xs) ys all = each-right P xs ys all.1

pub each-map : {A B : Type 0} (P : B → Type 0) (f : A → B) (xs : List A) → AllByRecursion (λ x. P (f x)) xs → AllByRecursion P (map f xs)
each-map P f [] all = tt
each-map P f (x ∷ xs) all = (all.0, each-map P f xs all.1)

pub each-unmap : {A B : Type 0} (P : B → Type 0) (f : A → B) (xs : List A) → AllByRecursion P (map f xs) → AllByRecursion (λ x. P (f x)) xs
each-unmap P f [] all = tt
each-unmap P f (x ∷ xs) all = (all.0, each-unmap P f xs all.1)

pub each-flat : {A B : Type 0} (P : B → Type 0) (f : A → List B) (xs : List A) → AllByRecursion (λ x. AllByRecursion P (f x)) xs → AllByRecursion P (flat_map f xs)
each-flat P f [] all = tt
each-flat P f (x ∷ xs) all = each-append P (f x) (flat_map f xs) all.0 (each-flat P f xs all.1)

kept-each : {A : Type 0} (P : A → Type 0) (b : Bool) (x : A) (ys : List A) → P x → AllByRecursion P ys → AllByRecursion P (cond b (x ∷ ys) ys)
kept-each P true x ys one all = (one, all)
kept-each P false x ys one all = all

pub each-filter : {A : Type 0} (P : A → Type 0) (test : A → Bool) (xs : List A) → AllByRecursion P xs → AllByRecursion P (filter test xs)
each-filter P test [] all = tt
each-filter P test (x ∷ xs) all = kept-each P (test x) x (filter test xs) all.0 (each-filter P test xs all.1)

pub each-get : {A : Type 0} (P : A → Type 0) (xs : List A) (k : ℕ) (x : A) → AllByRecursion P xs → slice_get xs k ≡ Some x → P x
each-get P [] k x all at = absurd (none-some x at)
each-get P (y ∷ ys) zero x all at = subst P (same_Some y x at) all.0
each-get P (y ∷ ys) (suc k) x all at = each-get P ys k x all.1 at

pub each-from-get : {A : Type 0} (P : A → Type 0) (xs : List A) → ((k : ℕ) (x : A) → slice_get xs k ≡ Some x → P x) → AllByRecursion P xs
each-from-get P [] all = tt
each-from-get P (x ∷ xs) all = (all 0 x refl, each-from-get P xs (λ k y at. all (suc k) y at))

-- elements with their numbers
pub each-enumerated : {A : Type 0} (P : ℕ × A → Type 0) (n : ℕ) (xs : List A) → ((k : ℕ) (x : A) → slice_get xs k ≡ Some x → P (n + k, x)) → AllByRecursion P (enumerate_from n xs)
each-enumerated P n [] all = tt
each-enumerated P n (x ∷ xs) all =
    let here : n + 0 ≡ n = omega arith in (
      subst (λ (m : ℕ). P (m, x)) here (all 0 x refl),
      each-enumerated P (n + 1) xs (λ k y at. let same : n + suc k ≡ (n + 1) + k = omega arith in subst (λ (m : ℕ). P (m, y)) same (all (suc k) y at)),
    )

pub each-numbered : {A : Type 0} (P : ℕ × A → Type 0) (xs : List A) → ((k : ℕ) (x : A) → slice_get xs k ≡ Some x → P (k, x)) → AllByRecursion P (enumerate_from 0 xs)
each-numbered P xs all =
    each-enumerated P 0 xs (λ k x at. let same : k ≡ 0 + k = omega arith in subst (λ (m : ℕ). P (m, x)) same (all k x at))

pub each-between : (P : ℕ → Type 0) (a len : ℕ) → ((d : ℕ) → d < len → P (a + d)) → AllByRecursion P (range_with_len a len)
each-between P a zero all = tt
each-between P a (suc len) all =
    let here : a + 0 ≡ a = omega arith in (
      subst P here (all 0 (omega arith)),
      each-between P (a + 1) len (λ d below. let same : a + suc d ≡ (a + 1) + d = omega arith in subst P same (all (suc d) (omega arith))),
    )

pub each-below : (P : ℕ → Type 0) (len : ℕ) → ((d : ℕ) → d < len → P d) → AllByRecursion P (range_with_len 0 len)
each-below P len all = each-between P 0 len (λ d below. let same : d ≡ 0 + d = omega arith in subst P same (all d below))

-- ---- what an element passes

or-left : (b c d : Bool) → (b || c) ≡ true → (c ≡ true → d ≡ true) → (b || d) ≡ true
or-left true c d is next = refl
or-left false c d is next = next is

pub or-first : (b c : Bool) → b ≡ true → (b || c) ≡ true
or-first true c is = refl
or-first false c is = absurd (cc)

pub or-right : (b c : Bool) → c ≡ true → (b || c) ≡ true
or-right true c is = refl
or-right false c is = is

any-left : {A : Type 0} (test : A → Bool) (xs ys : List A) → list_any test xs ≡ true → list_any test (xs ++ ys) ≡ true
any-left test [] ys is = absurd (cc)
any-left test (x ∷ xs) ys is = or-left (test x) (list_any test xs) (list_any test (xs ++ ys)) is (any-left test xs ys)

any-right : {A : Type 0} (test : A → Bool) (xs ys : List A) → list_any test ys ≡ true → list_any test (xs ++ ys) ≡ true
any-right test [] ys is = is
any-right test (x ∷ xs) ys is = or-right (test x) (list_any test (xs ++ ys)) (any-right test xs ys is)

pub any-map : {A B : Type 0} (test : B → Bool) (f : A → B) (xs : List A) → list_any test (map f xs) ≡ list_any (λ x. test (f x)) xs
any-map test f [] = refl
any-map test f (x ∷ xs) = ap (λ b. test (f x) || b) (any-map test f xs)

pub any-flat : {A B : Type 0} (test : B → Bool) (f : A → List B) (xs : List A) (k : ℕ) (x : A) → slice_get xs k ≡ Some x → list_any test (f x) ≡ true → list_any test (flat_map f xs) ≡ true
any-flat test f [] k x at is = absurd (none-some x at)
any-flat test f (y ∷ ys) zero x at is = any-left test (f y) (flat_map f ys) (ap (λ z. list_any test (f z)) (same_Some y x at) ∙ is)
any-flat test f (y ∷ ys) (suc k) x at is = any-right test (f y) (flat_map f ys) (any-flat test f ys k x at is)

get-enumerated : {A : Type 0} (n : ℕ) (xs : List A) (k : ℕ) (x : A) → slice_get xs k ≡ Some x → slice_get (enumerate_from n xs) k ≡ Some (n + k, x)
get-enumerated n [] k x at = absurd (none-some x at)
get-enumerated {A} n (y ∷ ys) zero x at =
    let here : n ≡ n + 0 = omega arith in
    ap (λ (z : A). Some (n, z)) (same_Some y x at) ∙ ap (λ (m : ℕ). Some (m, x)) here
get-enumerated {A} n (y ∷ ys) (suc k) x at =
    let same : (n + 1) + k ≡ n + suc k = omega arith in
    get-enumerated (n + 1) ys k x at ∙ ap (λ (m : ℕ). Some (m, x)) same

pub get-numbered : {A : Type 0} (xs : List A) (k : ℕ) (x : A) → slice_get xs k ≡ Some x → slice_get (enumerate_from 0 xs) k ≡ Some (k, x)
get-numbered {A} xs k x at =
    let same : 0 + k ≡ k = omega arith in
    get-enumerated 0 xs k x at ∙ ap (λ (m : ℕ). Some (m, x)) same

any-between : (test : ℕ → Bool) (a len d : ℕ) → d < len → test (a + d) ≡ true → list_any test (range_with_len a len) ≡ true
any-between test a zero d below is = absurd (omega arith)
any-between test a (suc len) zero below is =
    let here : a ≡ a + 0 = omega arith in
    or-first (test a) (list_any test (range_with_len (a + 1) len)) (ap test here ∙ is)
any-between test a (suc len) (suc d) below is =
    let same : (a + 1) + d ≡ a + suc d = omega arith in
    or-right (test a) (list_any test (range_with_len (a + 1) len)) (any-between test (a + 1) len d (omega arith) (ap test same ∙ is))

pub any-below : (test : ℕ → Bool) (len d : ℕ) → d < len → test d ≡ true → list_any test (range_with_len 0 len) ≡ true
any-below test len d below is = let same : 0 + d ≡ d = omega arith in any-between test 0 len d below (ap test same ∙ is)

-- an element that passes is kept, where all that pass are
pub any-filter : {A : Type 0} (test p : A → Bool) (xs : List A) → ((x : A) → test x ≡ true → p x ≡ true) → list_any test xs ≡ true → list_any test (filter p xs) ≡ true
any-filter test p [] passes is = absurd (cc)
any-filter {A} test p (x ∷ xs) passes is = by-tests (test x) (p x) refl refl is (any-filter test p xs passes)
  where
    by-tests : (b c : Bool) → test x ≡ b → p x ≡ c → (b || list_any test xs) ≡ true → (list_any test xs ≡ true → list_any test (filter p xs) ≡ true) → list_any test (cond c (x ∷ filter p xs) (filter p xs)) ≡ true
    by-tests true true here kept h rest = or-first (test x) (list_any test (filter p xs)) here
    by-tests true false here kept h rest = let never : true ≡ false = sym (passes x here) ∙ kept in absurd (cc)
    by-tests false true here kept h rest = or-right (test x) (list_any test (filter p xs)) (rest h)
    by-tests false false here kept h rest = rest h

-- where one passes the first that does has a number
pub found-at : {A : Type 0} (test : A → Bool) (xs : List A) → list_any test xs ≡ true → (n : ℕ) × (position test xs ≡ Some n) × (n < length xs)
found-at test [] is = absurd (cc)
found-at {A} test (x ∷ xs) is = by-position (position test (x ∷ xs)) refl (position-some test (x ∷ xs) ∙ is)
  where
    by-position : (o : Option ℕ) → position test (x ∷ xs) ≡ o → is_some o ≡ true → (n : ℕ) × (position test (x ∷ xs) ≡ Some n) × (n < length (x ∷ xs))
    by-position None at there = absurd (cc)
    by-position (Some n) at there = (n, at, (position-Some test (x ∷ xs) n x at).0)
