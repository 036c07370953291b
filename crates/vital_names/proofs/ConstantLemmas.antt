-- Constants with their numbers.
use Rattle.std.proofs.Common.{◌≡◌, ℕ, zero, suc, ◌+◌, ◌<◌, ◌≤◌, true, false, List, [], ◌∷◌, length, take, drop, refl, sym, ◌∙◌, ap, arith}
use Rattle.std.specs.Prelude.{Bool, cond, Option, Some, None, nat_lt, position, not}
use Rattle.std.specs.Borrow.{Bor}
use Rattle.std.specs.List.{enumerate_from, find, position_or_len, slice_get}
use Rattle.std.specs.Option.{option_map_or, option_or}
use Rattle.std.proofs.lemmas.Bool.{cond-true, cond-false}
use Rattle.std.proofs.lemmas.Bool.Decides.{nat_tests}
use Rattle.std.proofs.lemmas.List.{take-append-drop}
use Rattle.std.proofs.lemmas.List.Folds.{find_at, find-append}
use Rattle.std.proofs.lemmas.Option.{slice_get_past}
use Rattle.vital_nodes.specs.declared.decl.Object.{Object}
use Rattle.vital_library.specs.Constants.{lent}

-- where none passes, none does among those before a number
none-first : {B : Type 0} (p q : Option B) → option_or p q ≡ None → p ≡ None
none-first None q h = refl
none-first (Some x) q h = absurd (cc)

pub none-before : {B : Type 0} (pass : B → Bool) (m : ℕ) (xs : List B) → find pass xs ≡ None → find pass (take m xs) ≡ None
none-before pass m xs h = none-first _ (find pass (drop m xs)) (sym (find-append pass (take m xs) (drop m xs)) ∙ ap (find pass) (take-append-drop m xs) ∙ h)

module _ {A : Type 0} (test : A → Bool) where
  -- numbers change nothing in how many fail from the front on
  front-step : (b : Bool) (m n : ℕ) → m ≡ n → cond b (1 + m) 0 ≡ cond b (1 + n) 0
  front-step b m n e = ap (λ k. cond b (1 + k) 0) e

  front-enumerate : (n : ℕ) (xs : List A) → position_or_len (λ c. test c.1) (enumerate_from n xs) ≡ position_or_len test xs
  front-enumerate n [] = refl
  front-enumerate n (x ∷ xs) = front-step (not (test x)) _ _ (front-enumerate (n + 1) xs)

  numbered-at : (n : ℕ) (xs : List A) (k : ℕ) (x : A) → slice_get xs k ≡ Some x → slice_get (enumerate_from n xs) k ≡ Some (n + k, x)
  numbered-at n [] k x h = absurd (cc)
  numbered-at n (y ∷ ys) zero x h =
      let same : y ≡ x = cc in
      let here : n ≡ n + 0 = omega arith in
      ap (λ z. Some (n, z)) same ∙ ap (λ m. Some (m, x)) here
  numbered-at n (y ∷ ys) (suc k) x h =
      let here : (n + 1) + k ≡ n + suc k = omega arith in
      numbered-at (n + 1) ys k x h ∙ ap (λ m. Some (m, x)) here

  length-numbered : (n : ℕ) (xs : List A) → length (enumerate_from n xs) ≡ length xs
  length-numbered n [] = refl
  length-numbered n (x ∷ xs) = ap suc (length-numbered (n + 1) xs)

  place-some : (b : Bool) (k n : ℕ) → Some n ≡ cond b (Some k) None → k ≡ n
  place-some true k n h = cc
  place-some false k n h = absurd (cc)

  place-none : (b : Bool) (k : ℕ) → None ≡ cond b (Some k) None → b ≡ false
  place-none true k h = absurd (cc)
  place-none false k h = refl

  pub numbered-none : (xs : List A) → None ≡ position test xs → find (λ c. test c.1) (enumerate_from 0 xs) ≡ None
  numbered-none xs h =
      let k = position_or_len test xs in
      let outside : nat_lt k (length xs) ≡ false = place-none _ k h in
      let past : length xs ≤ k = grind (arith, nat_tests) in
      let past' : length (enumerate_from 0 xs) ≤ k = omega (arith, length-numbered 0 xs) in
      find_at (λ c. test c.1) (enumerate_from 0 xs)
      ∙ ap (slice_get (enumerate_from 0 xs)) (front-enumerate 0 xs)
      ∙ slice_get_past (enumerate_from 0 xs) k past'

  pub numbered-some : (xs : List A) (n : ℕ) (x : A) → Some n ≡ position test xs → slice_get xs n ≡ Some x → find (λ c. test c.1) (enumerate_from 0 xs) ≡ Some (n, x)
  numbered-some xs n x h at =
      let here : position_or_len test xs ≡ n = place-some _ _ n h in
      let same : 0 + n ≡ n = omega arith in
      find_at (λ c. test c.1) (enumerate_from 0 xs)
      ∙ ap (slice_get (enumerate_from 0 xs)) (front-enumerate 0 xs ∙ here)
      ∙ numbered-at 0 xs n x at
      ∙ ap (λ m. Some (m, x)) same

  -- ---- those before a number
  above-step : (b : Bool) (n k : ℕ) (x y : A) (later : Option (ℕ × A)) → (later ≡ Some (k, y) → n + 1 ≤ k) → cond b (Some (n, x)) later ≡ Some (k, y) → n ≤ k
  above-step true n k x y later rest h =
      let same : n ≡ k = ap (λ o. option_map_or (λ c. c.0) o 0) h in
      omega (arith, same)
  above-step false n k x y later rest h =
      let above : n + 1 ≤ k = rest h in
      omega (arith, above)

  numbers-above : (n : ℕ) (xs : List A) (k : ℕ) (y : A) → find (λ c. test c.1) (enumerate_from n xs) ≡ Some (k, y) → n ≤ k
  numbers-above n [] k y h = absurd (cc)
  numbers-above n (x ∷ xs) k y h = above-step (test x) n k x y _ (numbers-above (n + 1) xs k y) h

  before-step : (b : Bool) (n m k : ℕ) (x y : A) (later front : Option (ℕ × A)) → (later ≡ Some (k, y) → front ≡ cond (nat_lt k ((n + 1) + m)) (Some (k, y)) None) → cond b (Some (n, x)) later ≡ Some (k, y) → cond b (Some (n, x)) front ≡ cond (nat_lt k (n + suc m)) (Some (k, y)) None
  before-step true n m k x y later front rest h =
      let same : n ≡ k = ap (λ o. option_map_or (λ c. c.0) o 0) h in
      let inside : nat_lt k (n + suc m) ≡ true = grind (arith, nat_tests) in
      h ∙ sym (cond-true (nat_lt k (n + suc m)) (Some (k, y)) None inside)
  before-step false n m k x y later front rest h =
      let here : (n + 1) + m ≡ n + suc m = omega arith in
      rest h ∙ ap (λ e. cond (nat_lt k e) (Some (k, y)) None) here

  pub some-before : (m n : ℕ) (xs : List A) (k : ℕ) (y : A) → find (λ c. test c.1) (enumerate_from n xs) ≡ Some (k, y) → find (λ c. test c.1) (take m (enumerate_from n xs)) ≡ cond (nat_lt k (n + m)) (Some (k, y)) None
  some-before m n [] k y h = absurd (cc)
  some-before zero n (x ∷ xs) k y h =
      let above : n ≤ k = numbers-above n (x ∷ xs) k y h in
      let outside : nat_lt k (n + 0) ≡ false = grind (arith, nat_tests) in
      sym (cond-false (nat_lt k (n + 0)) (Some (k, y)) None outside)
  some-before (suc m) n (x ∷ xs) k y h = before-step (test x) n m k x y _ _ (some-before m (n + 1) xs k y) h

  pub before-there : (m : ℕ) (xs : List A) (k : ℕ) (y : A) → k < m → find (λ c. test c.1) (enumerate_from 0 xs) ≡ Some (k, y) → find (λ c. test c.1) (take m (enumerate_from 0 xs)) ≡ Some (k, y)
  before-there m xs k y below h =
      let inside : nat_lt k (0 + m) ≡ true = grind (arith, nat_tests) in
      some-before m 0 xs k y h ∙ cond-true (nat_lt k (0 + m)) (Some (k, y)) None inside

  pub before-past : (m : ℕ) (xs : List A) (k : ℕ) (y : A) → m ≤ k → find (λ c. test c.1) (enumerate_from 0 xs) ≡ Some (k, y) → find (λ c. test c.1) (take m (enumerate_from 0 xs)) ≡ None
  before-past m xs k y past h =
      let outside : nat_lt k (0 + m) ≡ false = grind (arith, nat_tests) in
      some-before m 0 xs k y h ∙ cond-false (nat_lt k (0 + m)) (Some (k, y)) None outside

-- what is borrowed of the object of a number
pub lent-at : (os : List (Bor Object)) (n : ℕ) (o : Bor Object) → slice_get os n ≡ Some o → slice_get (lent os) n ≡ Some o.now
lent-at [] n o h = absurd (cc)
lent-at (p ∷ os) zero o h = let same : p ≡ o = cc in ap (λ q. Some q.now) same
lent-at (p ∷ os) (suc n) o h = lent-at os n o h
