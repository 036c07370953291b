-- The search for the longest part that passes a test finds it.
use Rattle.std.proofs.Common.{◌≡◌, ℕ, zero, suc, ◌<◌, ◌≤◌, Bool, true, false, ◌&&◌, cond, List, length, refl, ap, sym, subst, ◌∙◌, ⊎_elim, arith, Option, Some, None}
use Rattle.std.specs.Prelude.{slice_range, nat_le}
use Rattle.std.proofs.lemmas.Bool.{and_parts, and_from, and_left, and_right, cond-true, cond-false, cases_Bool, cases_lt, le-leb, leb-true, true≢false}
use Rattle.vital_vhdl_lexemes.specs.Longest.{last_up_to, longest, IsLongest, NoneFits}

-- What a search up to a number found.
record IsLast (test : ℕ → Bool) (n end : ℕ) : Type 0 where
  within : end ≤ n
  passes : test end ≡ true
  last : (more : ℕ) → end < more → more ≤ n → test more ≡ false

abbrev Finds : (ℕ → Bool) → ℕ → Option ℕ → Type 0
Finds test n (Some end) = IsLast test n end
Finds test n None = (m : ℕ) → m ≤ n → test m ≡ false

module _ (test : ℕ → Bool) where
  finds_here : (n : ℕ) → test n ≡ true → IsLast test n n
  finds_here n passes = record { within = omega arith; passes = passes; last = λ more above within. absurd (omega arith) }

  goes_on : (n : ℕ) (found : Option ℕ) → test (suc n) ≡ false → Finds test n found → Finds test (suc n) found
  goes_on n None fails none = λ m up_to.
      ⊎_elim (λ past. let here : m ≡ suc n = omega arith in ap test here ∙ fails) (λ below. none m below) (cases_lt n m)
  goes_on n (Some end) fails found = record {
    within = omega (arith, found.within);
    passes = found.passes;
    last = λ more above within. ⊎_elim (λ past. let here : more ≡ suc n = omega arith in ap test here ∙ fails) (λ below. found.last more above below) (cases_lt n more);
  }

  finds : (n : ℕ) → Finds test n (last_up_to test n)
  finds zero =
      ⊎_elim
      (λ passes. subst (Finds test 0) (sym (cond-true (test 0) (Some 0) None passes)) (finds_here 0 passes))
      (λ fails. subst (Finds test 0) (sym (cond-false (test 0) (Some 0) None fails)) (λ m up_to. let here : m ≡ 0 = omega arith in ap test here ∙ fails))
      (cases_Bool (test 0))
  finds (suc n) =
      ⊎_elim
      (λ passes. subst (Finds test (suc n)) (sym (cond-true (test (suc n)) (Some (suc n)) (last_up_to test n) passes)) (finds_here (suc n) passes))
      (λ fails. subst (Finds test (suc n)) (sym (cond-false (test (suc n)) (Some (suc n)) (last_up_to test n) fails)) (goes_on n (last_up_to test n) fails (finds n)))
      (cases_Bool (test (suc n)))

module _ (test : List ℕ → Bool) (text : List ℕ) (at : ℕ) where
  abbrev part : ℕ → Bool
  part end = nat_le at end && test (slice_range text at end)

  passes_from : (end : ℕ) → at ≤ end → test (slice_range text at end) ≡ part end
  passes_from end above = sym (ap (λ b. b && test (slice_range text at end)) (le-leb at end above))

  outcome : (found : Option ℕ) → Finds part (length text) found → (end : ℕ) → found ≡ Some end → IsLongest test text at end
  outcome None none end is = let e : ◌≡◌ {A = Option ℕ} None (Some end) = is in absurd cc
  outcome (Some first) found end is =
      let same : first ≡ end = cc in
      subst (λ (e : ℕ). IsLongest test text at e) same
      (let parts = and_parts (nat_le at first) (test (slice_range text at first)) found.passes in
      let forward : at ≤ first = leb-true at first parts.0 in
      record {
        forward = forward;
        within = found.within;
        passes = parts.1;
        longest = λ more above within. passes_from more (omega arith) ∙ found.last more above within;
      })

  nothing : (found : Option ℕ) → Finds part (length text) found → found ≡ None → NoneFits test text at
  nothing None none is = λ end above within. passes_from end above ∙ none end within
  nothing (Some first) found is = let e : ◌≡◌ {A = Option ℕ} (Some first) None = is in absurd cc

  -- what is found is the longest
  pub is_longest : (end : ℕ) → longest test text at ≡ Some end → IsLongest test text at end
  unfolding longest
  is_longest end is = outcome (last_up_to part (length text)) (finds part (length text)) end is

  -- where none is found, none fits
  pub none_fits : longest test text at ≡ None → NoneFits test text at
  unfolding longest
  none_fits is = nothing (last_up_to part (length text)) (finds part (length text)) is

  same_end : (a b : ℕ) → IsLongest test text at a → IsLongest test text at b → a ≡ b
  same_end a b x y =
      ⊎_elim
      (λ below. absurd (true≢false (sym y.passes ∙ x.longest b below y.within)))
      (λ up_to. ⊎_elim (λ above. absurd (true≢false (sym x.passes ∙ y.longest a above x.within))) (λ level. omega arith) (cases_lt b a))
      (cases_lt a b)

  found_or_none : (found : Option ℕ) → longest test text at ≡ found → (end : ℕ) → IsLongest test text at end → found ≡ Some end
  found_or_none None is end this = absurd (true≢false (sym this.passes ∙ none_fits is end this.forward this.within))
  found_or_none (Some first) is end this = ap Some (same_end first end (is_longest first is) this)

  none_or_found : (found : Option ℕ) → longest test text at ≡ found → NoneFits test text at → found ≡ None
  none_or_found None is none = refl
  none_or_found (Some first) is none = let this = is_longest first is in absurd (true≢false (sym this.passes ∙ none first this.forward this.within))

  -- the longest is found
  pub longest_is : (end : ℕ) → IsLongest test text at end → longest test text at ≡ Some end
  longest_is end this = found_or_none (longest test text at) refl end this

  -- and none where none fits
  pub longest_none : NoneFits test text at → longest test text at ≡ None
  longest_none none = none_or_found (longest test text at) refl none
