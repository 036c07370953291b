-- Places in sets.
use Rattle.std.proofs.Common.{◌≡◌, ℕ, ◌+◌, ◌<◌, true, false, List, length, take, get_or, ◌∙◌, sym, ap, refl, arith}
use Rattle.std.specs.Prelude.{Bool, cond, nat_lt, ◌==◌, ◌&&◌, ◌||◌}
use Rattle.std.proofs.lemmas.List.Folds.{list_any_more}
use Rattle.std.specs.List.{list_any}
use Rattle.std.specs.Cmp.{tied_then}
use Rattle.std.specs.Ordering.{is_eq, nat_cmp, ordering_then}
use Rattle.std.specs.declared.cmp.Ordering.TheVariants.{Less, Equal, Greater}
use Rattle.std.proofs.lemmas.Bool.Decides.{nat_tests}
use Rattle.vital_base.specs.Places.{compare_places}
use Rattle.vital_base.specs.declared.place.Place.{Place}
use Rattle.vital_operands.specs.Faults.{is_at, is_same_place}

same-test : (less same : Bool) → (less ≡ true → same ≡ false) → is_eq (cond less Less (cond same Equal Greater)) ≡ same
same-test true same h = sym (h refl)
same-test false true h = refl
same-test false false h = refl

same-number : (m n : ℕ) → is_eq (nat_cmp m n) ≡ (m == n)
same-number m n = same-test (nat_lt m n) (m == n) (λ h. grind (arith, nat_tests))

-- places are the same where their order does not tell them apart
pub same-place : (a b : Place) → is_eq (compare_places a b) ≡ is_same_place a b
same-place a b =
    sym (tied_then (nat_cmp a.file b.file) (ordering_then (nat_cmp a.line b.line) (nat_cmp a.column b.column)))
    ∙ ap (λ t. is_eq (nat_cmp a.file b.file) && t) (sym (tied_then (nat_cmp a.line b.line) (nat_cmp a.column b.column)))
    ∙ ap (λ t. t && (is_eq (nat_cmp a.line b.line) && is_eq (nat_cmp a.column b.column))) (same-number a.file b.file)
    ∙ ap (λ t. (a.file == b.file) && (t && is_eq (nat_cmp a.column b.column))) (same-number a.line b.line)
    ∙ ap (λ t. (a.file == b.file) && ((a.line == b.line) && t)) (same-number a.column b.column)

either : (s b : Bool) → cond s true b ≡ (b || s)
either true true = refl
either true false = refl
either false true = refl
either false false = refl

-- one place more
pub is_at-more : (places : List Place) (i : ℕ) (place other : Place) (before after : Bool) → i < length places → place ≡ get_or places i place → before ≡ is_at (take i places) other → after ≡ cond (is_eq (compare_places place other)) true before → after ≡ is_at (take (i + 1) places) other
is_at-more places i place other before after within is was now =
    now
    ∙ ap (λ t. cond t true before) (same-place place other)
    ∙ either (is_same_place place other) before
    ∙ ap (λ b. b || is_same_place place other) was
    ∙ ap (λ p. is_at (take i places) other || is_same_place p other) is
    ∙ sym (list_any_more (λ f. is_same_place f other) places i place within)
