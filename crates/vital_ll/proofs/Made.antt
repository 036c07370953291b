-- The marks that the passes end with.
use Rattle.std.proofs.Common.{◌≡◌, ℕ, zero, suc, ◌+◌, ◌-◌, ◌^◌, ◌<◌, true, false, List, [], ◌∷◌, ◌++◌, length, set, replicate, Some, is_some, slice_get, Contains, refl, sym, ap, ◌∙◌, subst, arith}
use Rattle.std.proofs.lemmas.List.{length-append}
use Rattle.std.proofs.lemmas.List.Elements.{at_from_Contains}
use Rattle.std.proofs.lemmas.Option.{slice_get-get_or}
use Rattle.vital_ll.specs.declared.grammar.Sym.{Sym}
use Rattle.vital_ll.specs.declared.grammar.Sym.TheVariants.{Rule}
use Rattle.vital_ll.specs.declared.derivation.Step.{Step}
use Rattle.vital_ll.specs.declared.listing.Place.{Place}
use Rattle.vital_ll.specs.Grammar.{Grammar, alternative_of, nothing}
use Rattle.vital_ll.specs.Choice.{CanBegin, CanBeEmpty, start, Follows, IsWellFormed}
use Rattle.vital_ll.specs.Marks.{has, marked, IsSaturated, IsReached}
use Rattle.vital_ll.specs.Masks.{token_at}
use Rattle.vital_ll.specs.Listing.{step, place, ListsSteps, ListsPlaces}
use Rattle.vital_ll.specs.Passes.{At, EachBit, EmptyAt, FirstAt, ReachAt, FollowAt, FollowsFrom, NullableMasks, FirstMasks, ReachedMasks, FollowMasks}
use Rattle.vital_ll.proofs.Bits.{has_none, has_all}

listed_at : {A : Type 0} (xs : List A) (x : A) → Contains xs x → (k : ℕ) × (k < length xs) × (slice_get xs k ≡ Some x)
listed_at xs x h =
    let p = at_from_Contains xs x h in
    (p.0, p.1, slice_get-get_or xs p.0 x p.1 ∙ ap Some (p.2 x))

none_marked : (n i r : ℕ) → marked (replicate n 0) i r ≡ true → ⊥
none_marked zero i r e = let none : has 0 i ≡ false = has_none i in absurd (cc)
none_marked (suc n) i zero e = let none : has 0 i ≡ false = has_none i in absurd (cc)
none_marked (suc n) i (suc r) e = none_marked n i r e

-- what holds at each alternative
at_step : (g : Grammar) (steps : List Step) (P : Step → Type 0) → ListsSteps g steps → ((k : ℕ) → k < length steps → At steps k P) →
    (r a : ℕ) (chosen : List Sym) → alternative_of g r a ≡ Some chosen → P (step r a)
at_step g steps P lists settled r a chosen is =
    let p = listed_at steps (step r a) (lists.complete r a (ap is_some is)) in settled p.0 p.1 (step r a) p.2

at_place : (g : Grammar) (steps : List Step) (places : List Place) (P : Place → Type 0) → ListsSteps g steps → ListsPlaces g steps places → ((k : ℕ) → k < length places → At places k P) →
    (r a s : ℕ) (before after : List Sym) → alternative_of g r a ≡ Some (before ++ Rule s ∷ after) → P (place (step r a) (length before))
at_place g steps places P lists_steps lists settled r a s before after is =
    let found = lists.complete (step r a) (length before) (before ++ Rule s ∷ after) (lists_steps.complete r a (ap is_some is)) is (omega (arith, length-append before (Rule s ∷ after))) in
    let p = listed_at places (place (step r a) (length before)) found in settled p.0 p.1 (place (step r a) (length before)) p.2

pub nullable_made : (g : Grammar) (steps : List Step) (old new : List ℕ) → ListsSteps g steps → old ≡ replicate (length g) 0 → length old ≡ length g →
    IsSaturated (λ i r. CanBeEmpty g (Rule r ∷ [])) (λ m. (k : ℕ) → k < length steps → At steps k (λ x. EachBit (λ i. EmptyAt g (marked m i) x))) old new → NullableMasks g new
nullable_made g steps old new lists old_is len s = record {
  len = s.len ∙ len;
  each = λ i low. record {
    sound = λ r. s.sound (λ j q k h. absurd (none_marked (length g) j q (ap (λ (l : List ℕ). marked l j q) (sym old_is) ∙ h))) i r low;
    closed = λ r a chosen is e. at_step g steps (λ x. EachBit (λ j. EmptyAt g (marked new j) x)) lists s.settled r a chosen is i low chosen is e;
  };
}

pub first_made : (g : Grammar) (steps : List Step) (nullable : List ℕ) (base : ℕ) (old new : List ℕ) → ListsSteps g steps → old ≡ replicate (length g) 0 → length old ≡ length g →
    IsSaturated (λ i r. CanBegin g (Rule r ∷ []) (token_at (base + i))) (λ m. (k : ℕ) → k < length steps → At steps k (λ x. EachBit (λ i. FirstAt g (marked nullable i) (token_at (base + i)) (marked m i) x))) old new →
    FirstMasks g nullable base new
first_made g steps nullable base old new lists old_is len s = record {
  len = s.len ∙ len;
  each = λ i low. record {
    sound = λ r. s.sound (λ j q k h. absurd (none_marked (length g) j q (ap (λ (l : List ℕ). marked l j q) (sym old_is) ∙ h))) i r low;
    closed = λ r a chosen is e. at_step g steps (λ x. EachBit (λ j. FirstAt g (marked nullable j) (token_at (base + j)) (marked new j) x)) lists s.settled r a chosen is i low chosen is e;
  };
}

-- where the mask of the first rule alone was set
only_first : (n mask i r : ℕ) → marked (set (replicate n 0) 0 mask) i r ≡ true → (r ≡ 0) × (has mask i ≡ true)
only_first zero mask i r e = let none : has 0 i ≡ false = has_none i in absurd (cc)
only_first (suc n) mask i zero e = (refl, e)
only_first (suc n) mask i (suc r) e = absurd (none_marked n i r e)

first_marked : (n mask i : ℕ) → 0 < n → marked (set (replicate n 0) 0 mask) i 0 ≡ has mask i
first_marked zero mask i h = absurd (omega arith)
first_marked (suc n) mask i h = refl

pub reached_made : (g : Grammar) (steps : List Step) (places : List Place) (old new : List ℕ) → IsWellFormed g → ListsSteps g steps → ListsPlaces g steps places →
    old ≡ set (replicate (length g) 0) 0 (2 ^ 128 - 1) → length old ≡ length g →
    IsSaturated (λ i r. IsReached g r) (λ m. (k : ℕ) → k < length places → At places k (λ x. EachBit (λ i. ReachAt g (marked m i) x))) old new → ReachedMasks g new
reached_made g steps places old new well lists_steps lists old_is len s = record {
  len = s.len ∙ len;
  each = λ i low. record {
    sound = λ r. s.sound (λ j q k h.
        let p = only_first (length g) (2 ^ 128 - 1) j q (ap (λ (l : List ℕ). marked l j q) (sym old_is) ∙ h) in
        subst (λ (x : ℕ). IsReached g x) (sym p.0) ([], [], start)) i r low;
    closed = λ r a q before after is on. at_place g steps places (λ x. EachBit (λ j. ReachAt g (marked new j) x)) lists_steps lists s.settled r a q before after is i low q after (before, is, refl) on;
    at_first = s.kept i 0 (ap (λ (l : List ℕ). marked l i 0) old_is ∙ first_marked (length g) (2 ^ 128 - 1) i well.some_rule ∙ has_all i low);
  };
}

pub followed_made : (g : Grammar) (steps : List Step) (places : List Place) (base : ℕ) (nullable first reached : List ℕ) (end : ℕ) (old new : List ℕ) →
    FollowsFrom g steps places base nullable first reached → ListsSteps g steps → ((i : ℕ) → has end i ≡ true → base + i ≡ 0) → ((i : ℕ) → base + i ≡ 0 → has end i ≡ true) →
    old ≡ set (replicate (length g) 0) 0 end → length old ≡ length g →
    IsSaturated (λ i r. Follows g r (token_at (base + i)))
    (λ m. (k : ℕ) → k < length places → At places k (λ x. EachBit (λ i. FollowAt g (marked nullable i) (marked first i) (marked reached i) (token_at (base + i)) (marked m i) x))) old new →
    FollowMasks g nullable first reached base new
followed_made g steps places base nullable first reached end old new from lists_steps is_end end_is old_is len s = record {
  len = s.len ∙ len;
  each = λ i low. record {
    sound = λ r. s.sound (λ j q k h.
        let p = only_first (length g) end j q (ap (λ (l : List ℕ). marked l j q) (sym old_is) ∙ h) in
        subst (λ (x : ℕ). Follows g x (token_at (base + j))) (sym p.0)
        ([], [], start, ([], [], nothing, sym (ap token_at (is_end j p.1))))) i r low;
    closed = λ r a q before after is on e.
        at_place g steps places (λ x. EachBit (λ j. FollowAt g (marked nullable j) (marked first j) (marked reached j) (token_at (base + j)) (marked new j) x))
        lists_steps from.lists s.settled r a q before after is i low q after (before, is, refl) on e;
    at_end = λ e. s.kept i 0 (ap (λ (l : List ℕ). marked l i 0) old_is ∙ first_marked (length g) end i from.well_formed.some_rule ∙ end_is i e);
  };
}
