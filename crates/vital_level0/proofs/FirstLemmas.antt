-- The first of a list by an order: an element that no other one comes before.
use Rattle.std.proofs.Common.{◌≡◌, List, [], ◌∷◌, ◌∙◌, ap, arith, refl, subst, sym, inl, inr}
use Rattle.std.specs.Prelude.{◌⊎◌, Option, Some, None}
use Rattle.std.specs.Cmp.{IsTotalOrder}
use Rattle.std.specs.List.{Contains}
use Rattle.std.specs.List.Sorted.{IsStrictlySortedBy}
use Rattle.std.specs.Ordering.{ordering_reverse}
use Rattle.std.specs.declared.cmp.Ordering.{Ordering}
use Rattle.std.specs.declared.cmp.Ordering.TheVariants.{Less, Equal, Greater}
use Rattle.std.proofs.lemmas.Cmp.{tied_itself}
use Rattle.std.proofs.lemmas.List.Elements.{Contains-append_left, Contains-append_right, Contains-append_cases}
use Rattle.std.proofs.lemmas.Map.Views.{All-after_first}
use Rattle.vital_level0.proofs.BreachLemmas.{either, in-one, none-in-nil}

module _ {K : Type 0} (R : K → K → Ordering) (o : IsTotalOrder R) where
  -- None of an empty list.
  abbrev pub Leads : List K → Option K → Type 0
  Leads xs None = (x : K) → Contains xs x → ⊥
  Leads xs (Some first) = Contains xs first × ((x : K) → Contains xs x → R x first ≡ Less → ⊥)

  not-before-itself : (x : K) → R x x ≡ Less → ⊥
  not-before-itself x h = let bad : Less ≡ Equal = sym h ∙ tied_itself o x in cc

  head-is-in : (x : K) (xs : List K) → Contains (x ∷ xs) x
  head-is-in x xs = Contains-append_left (x ∷ []) xs x (0, omega arith, refl)

  tail-is-in : (y : K) (xs : List K) (x : K) → Contains xs x → Contains (y ∷ xs) x
  tail-is-in y xs x h = Contains-append_right (y ∷ []) xs x h

  cases : (y : K) (xs : List K) (x : K) → Contains (y ∷ xs) x → (y ≡ x) ⊎ Contains xs x
  cases y xs x h = either (λ a. inl (in-one y x a)) (λ b. inr b) (Contains-append_cases (y ∷ []) xs x h)

  -- of a list with one more element, where it is known how that element and the first of the others compare
  leads-by : (c : Ordering) (y : K) (xs : List K) (first : K) → R y first ≡ c → Leads xs (Some first) → (found : Option K) × Leads (y ∷ xs) found
  leads-by Less y xs first is leads =
      let none : (x : K) → Contains (y ∷ xs) x → R x y ≡ Less → ⊥ = λ x there less.
      either (λ same. not-before-itself y (subst (λ z. R z y ≡ Less) (sym same) less)) (λ later. leads.1 x later (o.trans x y first less is)) (cases y xs x there) in
      (Some y, (head-is-in y xs, none))
  leads-by Equal y xs first is leads =
      let none : (x : K) → Contains (y ∷ xs) x → R x first ≡ Less → ⊥ = λ x there less.
      either (λ same. let bad : Less ≡ Equal = sym (subst (λ z. R z first ≡ Less) (sym same) less) ∙ is in cc) (λ later. leads.1 x later less) (cases y xs x there) in
      (Some first, (tail-is-in y xs first leads.0, none))
  leads-by Greater y xs first is leads =
      let none : (x : K) → Contains (y ∷ xs) x → R x first ≡ Less → ⊥ = λ x there less.
      either (λ same. let bad : Less ≡ Greater = sym (subst (λ z. R z first ≡ Less) (sym same) less) ∙ is in cc) (λ later. leads.1 x later less) (cases y xs x there) in
      (Some first, (tail-is-in y xs first leads.0, none))

  leads-with : (y : K) (xs : List K) (first : Option K) → Leads xs first → (found : Option K) × Leads (y ∷ xs) found
  leads-with y xs None empty =
      let none : (x : K) → Contains (y ∷ xs) x → R x y ≡ Less → ⊥ = λ x there less.
      either (λ same. not-before-itself y (subst (λ z. R z y ≡ Less) (sym same) less)) (λ later. empty x later) (cases y xs x there) in
      (Some y, (head-is-in y xs, none))
  leads-with y xs (Some first) leads = leads-by (R y first) y xs first refl leads

  -- Each list has a first element, or none.
  pub first-leads : (xs : List K) → (found : Option K) × Leads xs found
  first-leads [] = (None, λ x h. none-in-nil x h)
  first-leads (y ∷ ys) = let rest = first-leads ys in leads-with y ys rest.0 rest.1

  -- The first of a list that rises is its head.
  pub head-leads : (y : K) (ys : List K) → IsStrictlySortedBy R (y ∷ ys) → Leads (y ∷ ys) (Some y)
  head-leads y ys rises =
      let later = All-after_first R y ys rises in
      let none : (x : K) → Contains (y ∷ ys) x → R x y ≡ Less → ⊥ = λ x there less.
      either (λ same. not-before-itself y (subst (λ z. R z y ≡ Less) (sym same) less))
      (λ at. not-before-itself x (o.trans x y x less (subst (λ z. R y z ≡ Less) at.2 (later at.0 x at.1))))
      (cases y ys x there) in
      (head-is-in y ys, none)

  module _ (same : (x y : K) → R x y ≡ Equal → x ≡ y) where
    tied-by : (c d : Ordering) (x y : K) → R x y ≡ c → R y x ≡ d → (R x y ≡ Less → ⊥) → (R y x ≡ Less → ⊥) → x ≡ y
    tied-by Less d x y is back h k = absurd (h is)
    tied-by Equal d x y is back h k = same x y is
    tied-by Greater d x y is back h k = absurd (k (o.antisymm y x ∙ ap ordering_reverse is))

    -- A list has one first element at most.
    pub one-leads : (xs : List K) (found other : Option K) → Leads xs found → Leads xs other → other ≡ found
    one-leads xs None None a b = refl
    one-leads xs None (Some y) a b = absurd (a y b.0)
    one-leads xs (Some x) None a b = absurd (b x a.0)
    one-leads xs (Some x) (Some y) a b = ap (λ z. Some z) (tied-by (R y x) (R x y) y x refl refl (a.1 y b.0) (b.1 x a.0))
