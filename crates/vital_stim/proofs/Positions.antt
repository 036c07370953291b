-- Where the first element that passes a test stands, and whether there is one.
use Rattle.std.proofs.Common.{◌≡◌, ℕ, ◌+◌, suc, true, false, List, [], ◌∷◌, ◌++◌, length, map, refl, sym, ◌∙◌, ap, arith}
use Rattle.std.specs.Prelude.{Bool, not, cond, ◌||◌, nat_lt, Some, None, position}
use Rattle.std.specs.List.{position_or_len, list_any}
use Rattle.std.proofs.lemmas.Bool.{lt-ltb, ltb-false}
use Rattle.std.proofs.lemmas.Bool.Decides.{nat_tests}
use Rattle.std.proofs.lemmas.List.Sums.{prefix_len-le-length}

module _ {X : Type 0} (p : X → Bool) where
  any-step : (x : X) (xs : List X) (v : Bool) → list_any p xs ≡ nat_lt (position_or_len p xs) (length xs) → (v || list_any p xs) ≡ nat_lt (cond (not v) (1 + position_or_len p xs) 0) (suc (length xs))
  any-step x xs true h = sym (lt-ltb 0 (suc (length xs)) (omega arith))
  any-step x xs false h = h ∙ grind (arith, nat_tests)

  -- there is one exactly where the first stands before the end
  pub any-lt : (xs : List X) → list_any p xs ≡ nat_lt (position_or_len p xs) (length xs)
  any-lt [] = refl
  any-lt (x ∷ xs) = any-step x xs (p x) (any-lt xs)

  found-at : (xs : List X) (i : ℕ) (v : Bool) → nat_lt (position_or_len p xs) (length xs) ≡ v → cond v (Some (position_or_len p xs)) None ≡ Some i → (position_or_len p xs ≡ i) × (v ≡ true)
  found-at xs i true e h = ((cc), refl)
  found-at xs i false e h = absurd (cc)

  missing-at : (xs : List X) (v : Bool) → nat_lt (position_or_len p xs) (length xs) ≡ v → cond v (Some (position_or_len p xs)) None ≡ None → (position_or_len p xs ≡ length xs) × (v ≡ false)
  missing-at xs true e h = absurd (cc)
  missing-at xs false e h = (omega (arith, ltb-false _ _ e, prefix_len-le-length (λ x. not (p x)) xs), refl)

  pub found : (xs : List X) (i : ℕ) → position p xs ≡ Some i → (position_or_len p xs ≡ i) × (list_any p xs ≡ true)
  found xs i h =
      let at = found-at xs i (nat_lt (position_or_len p xs) (length xs)) refl h in
      (at.0, any-lt xs ∙ at.1)

  pub missing : (xs : List X) → position p xs ≡ None → (position_or_len p xs ≡ length xs) × (list_any p xs ≡ false)
  missing xs h =
      let at = missing-at xs (nat_lt (position_or_len p xs) (length xs)) refl h in
      (at.0, any-lt xs ∙ at.1)

  stays-step : (x : X) (xs : List X) (y : X) (v : Bool) → ((list_any p xs || p y) ≡ true → position_or_len p (xs ++ y ∷ []) ≡ position_or_len p xs) → ((v || list_any p xs) || p y) ≡ true → cond (not v) (1 + position_or_len p (xs ++ y ∷ [])) 0 ≡ cond (not v) (1 + position_or_len p xs) 0
  stays-step x xs y true more h = refl
  stays-step x xs y false more h = ap (λ n. 1 + n) (more h)

  -- one more at the end does not move the first, where there is one before it or it is the first itself
  pub position-stays : (xs : List X) (y : X) → (list_any p xs || p y) ≡ true → position_or_len p (xs ++ y ∷ []) ≡ position_or_len p xs
  position-stays [] y h = rw h refl
  position-stays (x ∷ xs) y h = stays-step x xs y (p x) (position-stays xs y) h

module _ {X Y : Type 0} (f : X → Y) (p : Y → Bool) where
  pub position_or_len-map : (xs : List X) → position_or_len p (map f xs) ≡ position_or_len (λ x. p (f x)) xs
  position_or_len-map [] = refl
  position_or_len-map (x ∷ xs) = ap (λ n. cond (not (p (f x))) (1 + n) 0) (position_or_len-map xs)

  pub list_any-map : (xs : List X) → list_any p (map f xs) ≡ list_any (λ x. p (f x)) xs
  list_any-map [] = refl
  list_any-map (x ∷ xs) = ap (λ v. p (f x) || v) (list_any-map xs)
