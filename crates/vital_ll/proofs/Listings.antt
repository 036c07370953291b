-- The lists of alternatives and of symbols.
use Rattle.std.proofs.Common.{◌≡◌, ℕ, zero, suc, ◌+◌, ◌<◌, ◌≤◌, List, [], ◌∷◌, ◌++◌, length, get_or, take, Option, Some, None, IsSome, is_some, All, Contains, slice_get, refl, sym, ap, ◌∙◌, subst, arith, inl, inr}
use Rattle.std.proofs.lemmas.List.Elements.{All-nil, All-push, All-append, Contains-push, Contains-append_left, Contains-append_right, Contains-append_cases, Contains-push_cases, at_from_Contains, All-contains}
use Rattle.std.proofs.lemmas.List.{take_more}
use Rattle.std.proofs.lemmas.Option.{slice_get-get_or, slice_get_within, get_or_from_slice_get}
use Rattle.std.proofs.lemmas.Bool.{cases_eq}
use Rattle.std.specs.Option.{option_and_then}
use Rattle.vital_ll.specs.declared.grammar.Sym.{Sym}
use Rattle.vital_ll.specs.declared.derivation.Step.{Step}
use Rattle.vital_ll.specs.declared.listing.Place.{Place}
use Rattle.vital_ll.specs.Grammar.{Grammar, alternative_of}
use Rattle.vital_ll.specs.Listing.{step, place, steps_of, places_of, IsStepOf, ListsSteps, IsPlaceOf, ListsPlaces}

-- the alternatives of the rules below n
pub record StepsBelow (g : Grammar) (n : ℕ) (steps : List Step) : Type 0 where
  pub there : All (IsStepOf g) steps
  pub complete : (r a : ℕ) → r < n → IsSome (alternative_of g r a) → Contains steps (step r a)

steps_all : (P : Step → Type 0) (r n : ℕ) → ((a : ℕ) → a < n → P (step r a)) → All P (steps_of r n)
steps_all P r zero h = All-nil P
steps_all P r (suc n) h = All-push P (steps_of r n) (step r n) (steps_all P r n (λ a b. h a (omega arith))) (h n (omega arith))

steps_contain : (r n a : ℕ) → a < n → Contains (steps_of r n) (step r a)
steps_contain r zero a h = absurd (omega arith)
steps_contain r (suc n) a h =
    elim (cases_eq a n) [
      | inl e ↦ subst (λ (x : ℕ). Contains (steps_of r n ++ step r n ∷ []) (step r x)) (sym e) (Contains-push (steps_of r n) (step r n))
      | inr d ↦ Contains-append_left (steps_of r n) (step r n ∷ []) (step r a) (steps_contain r n a (omega arith))
    ]

places_all : (P : Place → Type 0) (s : Step) (n : ℕ) → ((k : ℕ) → k < n → P (place s k)) → All P (places_of s n)
places_all P s zero h = All-nil P
places_all P s (suc n) h = All-push P (places_of s n) (place s n) (places_all P s n (λ k b. h k (omega arith))) (h n (omega arith))

places_contain : (s : Step) (n k : ℕ) → k < n → Contains (places_of s n) (place s k)
places_contain s zero k h = absurd (omega arith)
places_contain s (suc n) k h =
    elim (cases_eq k n) [
      | inl e ↦ subst (λ (x : ℕ). Contains (places_of s n ++ place s n ∷ []) (place s x)) (sym e) (Contains-push (places_of s n) (place s n))
      | inr d ↦ Contains-append_left (places_of s n) (place s n ∷ []) (place s k) (places_contain s n k (omega arith))
    ]

-- an alternative that is there
pub there_at : (g : Grammar) (r a : ℕ) → r < length g → a < length (get_or g r []) → IsSome (alternative_of g r a)
there_at g r a h k =
    let e : slice_get g r ≡ Some (get_or g r []) = slice_get-get_or g r [] h in
    let f : slice_get (get_or g r []) a ≡ Some (get_or (get_or g r []) a []) = slice_get-get_or (get_or g r []) a [] k in
    ap is_some (ap (option_and_then (λ alternatives. slice_get alternatives a)) e ∙ f)

bounds_from : (g : Grammar) (r a : ℕ) (o : Option (List (List Sym))) → slice_get g r ≡ o → IsSome (option_and_then (λ alternatives. slice_get alternatives a) o) →
    (r < length g) × (a < length (get_or g r []))
bounds_from g r a None e h = absurd (cc)
bounds_from g r a (Some alternatives) e h =
    let inside = slice_get_within g r alternatives e in
    (inside, subst (λ (l : List (List Sym)). a < length l) (sym (get_or_from_slice_get g r alternatives [] e)) (within alternatives (slice_get alternatives a) refl h))
  where
    within : (l : List (List Sym)) (x : Option (List Sym)) → slice_get l a ≡ x → IsSome x → a < length l
    within l None f k = absurd (cc)
    within l (Some y) f k = slice_get_within l a y f

pub bounds_of : (g : Grammar) (r a : ℕ) → IsSome (alternative_of g r a) → (r < length g) × (a < length (get_or g r []))
bounds_of g r a h = bounds_from g r a (slice_get g r) refl h

pub steps_more : (g : Grammar) (n count : ℕ) (old new : List Step) → n < length g → count ≡ length (get_or g n []) → new ≡ old ++ steps_of n count → StepsBelow g n old → StepsBelow g (n + 1) new
steps_more g n count old new inside count_is new_is below =
    subst (λ (l : List Step). StepsBelow g (n + 1) l) (sym new_is) (record {
      there = All-append (IsStepOf g) old (steps_of n count) below.there (steps_all (IsStepOf g) n count (λ a h. there_at g n a inside (omega arith)));
      complete = λ r a h k.
          elim (cases_eq r n) [
            | inl e ↦
                let b = bounds_of g r a k in
                let low : a < count = let f : length (get_or g r []) ≡ length (get_or g n []) = ap (λ (x : ℕ). length (get_or g x [])) e in omega arith in
                Contains-append_right old (steps_of n count) (step r a) (subst (λ (x : ℕ). Contains (steps_of n count) (step x a)) (sym e) (steps_contain n count a low))
            | inr d ↦ Contains-append_left old (steps_of n count) (step r a) (below.complete r a (omega arith) k)
          ];
    })

pub steps_done : (g : Grammar) (n : ℕ) (steps : List Step) → length g ≤ n → StepsBelow g n steps → ListsSteps g steps
steps_done g n steps past below = record {
  there = below.there;
  complete = λ r a h. below.complete r a (let b = bounds_of g r a h in omega arith) h;
}

-- the alternatives of the rules from n on
pub record StepsFrom (g : Grammar) (n : ℕ) (steps : List Step) : Type 0 where
  pub there : All (IsStepOf g) steps
  pub complete : (r a : ℕ) → n ≤ r → IsSome (alternative_of g r a) → Contains steps (step r a)

pub steps_from_end : (g : Grammar) (n : ℕ) (steps : List Step) → n ≡ length g → steps ≡ [] → StepsFrom g n steps
steps_from_end g n steps end empty = subst (λ (l : List Step). StepsFrom g n l) (sym empty) (record {
  there = All-nil (IsStepOf g);
  complete = λ r a past k. absurd (let b = bounds_of g r a k in omega arith);
})

pub steps_before : (g : Grammar) (n m count : ℕ) (old new : List Step) → m ≡ n + 1 → n < length g → count ≡ length (get_or g n []) → new ≡ old ++ steps_of n count → StepsFrom g m old → StepsFrom g n new
steps_before g n m count old new next inside count_is new_is from =
    subst (λ (l : List Step). StepsFrom g n l) (sym new_is) (record {
      there = All-append (IsStepOf g) old (steps_of n count) from.there (steps_all (IsStepOf g) n count (λ a h. there_at g n a inside (omega arith)));
      complete = λ r a h k.
          elim (cases_eq r n) [
            | inl e ↦
                let b = bounds_of g r a k in
                let low : a < count = let f : length (get_or g r []) ≡ length (get_or g n []) = ap (λ (x : ℕ). length (get_or g x [])) e in omega arith in
                Contains-append_right old (steps_of n count) (step r a) (subst (λ (x : ℕ). Contains (steps_of n count) (step x a)) (sym e) (steps_contain n count a low))
            | inr d ↦ Contains-append_left old (steps_of n count) (step r a) (from.complete r a (omega arith) k)
          ];
    })

pub steps_from_first : (g : Grammar) (n : ℕ) (steps : List Step) → n ≡ 0 → StepsFrom g n steps → ListsSteps g steps
steps_from_first g n steps none from = record {
  there = from.there;
  complete = λ r a h. from.complete r a (omega arith) h;
}

-- the symbols of the alternatives in one order are those of the alternatives in any other
pub places_in_any_order : (g : Grammar) (steps other : List Step) (places : List Place) → ListsSteps g steps → ListsSteps g other → ListsPlaces g steps places → ListsPlaces g other places
places_in_any_order g steps other places lists others symbols = record {
  there = symbols.there;
  complete = λ s k chosen in_other is low.
      symbols.complete s k chosen (lists.complete s.rule s.alternative (All-contains (IsStepOf g) other s others.there in_other)) is low;
}

no_element : (q : Step) → Contains [] q → ⊥
no_element q h = let p = at_from_Contains [] q h in let low : p.0 < 0 = p.1 in omega arith

pub places_more : (g : Grammar) (steps : List Step) (i : ℕ) (s d : Step) (chosen : List Sym) (old new : List Place) → i < length steps → s ≡ get_or steps i d →
    alternative_of g s.rule s.alternative ≡ Some chosen → new ≡ old ++ places_of s (length chosen) → ListsPlaces g (take i steps) old → ListsPlaces g (take (i + 1) steps) new
places_more g steps i s d chosen old new inside s_is is new_is lists =
    let taken : take (i + 1) steps ≡ take i steps ++ s ∷ [] = take_more steps i d inside ∙ ap (λ (x : Step). take i steps ++ x ∷ []) (sym s_is) in
    subst (λ (l : List Step). ListsPlaces g l new) (sym taken) (subst (λ (l : List Place). ListsPlaces g (take i steps ++ s ∷ []) l) (sym new_is) (record {
      there = All-append (IsPlaceOf g) old (places_of s (length chosen)) lists.there (places_all (IsPlaceOf g) s (length chosen) (λ k h. (chosen, is, h)));
      complete = λ q k found contained found_is low.
          elim (Contains-append_cases (take i steps) (s ∷ []) q contained) [
            | inl h ↦ Contains-append_left old (places_of s (length chosen)) (place q k) (lists.complete q k found h found_is low)
            | inr h ↦
                let same : s ≡ q = only q h in
                let same_chosen : found ≡ chosen = let f : alternative_of g s.rule s.alternative ≡ alternative_of g q.rule q.alternative = ap (λ (x : Step). alternative_of g x.rule x.alternative) same in cc in
                Contains-append_right old (places_of s (length chosen)) (place q k)
                (subst (λ (x : Step). Contains (places_of s (length chosen)) (place x k)) same (places_contain s (length chosen) k (let f : length found ≡ length chosen = ap length same_chosen in omega arith)))
          ];
    }))
  where
    only : (q : Step) → Contains (s ∷ []) q → s ≡ q
    only q h = elim (Contains-push_cases [] s q h) [ inl f ↦ absurd (no_element q f) | inr f ↦ f ]
