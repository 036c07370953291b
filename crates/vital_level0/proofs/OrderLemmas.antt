-- Breaches that are not told apart by their order are one.
use Rattle.std.proofs.Common.{◌≡◌, ℕ, true, false, ◌∙◌, ap, refl}
use Rattle.std.specs.Prelude.{Bool, cond, nat_lt, ◌==◌}
use Rattle.std.specs.Ordering.{is_eq, nat_cmp, ordering_then}
use Rattle.std.specs.declared.cmp.Ordering.{Ordering}
use Rattle.std.specs.declared.cmp.Ordering.TheVariants.{Less, Equal, Greater}
use Rattle.std.proofs.lemmas.Bool.{eqb-true}
use Rattle.vital_base.specs.Breaches.{compare, compare_clauses}
use Rattle.vital_base.specs.Places.{compare_places}
use Rattle.vital_base.specs.declared.breach.Breach.{Breach}
use Rattle.vital_base.specs.declared.breach.Clause.{Clause}
use Rattle.vital_base.specs.declared.place.Place.{Place}

both-equal : (a b : Ordering) → is_eq (ordering_then a b) ≡ true → (is_eq a ≡ true) × (is_eq b ≡ true)
both-equal Less b h = let bad : false ≡ true = h in cc
both-equal Equal b h = (refl, h)
both-equal Greater b h = let bad : false ≡ true = h in cc

equal-step : (less same : Bool) → is_eq (cond less Less (cond same Equal Greater)) ≡ true → same ≡ true
equal-step true same h = let bad : false ≡ true = h in cc
equal-step false true h = refl
equal-step false false h = let bad : false ≡ true = h in cc

same-number : (m n : ℕ) → is_eq (nat_cmp m n) ≡ true → m ≡ n
same-number m n h = eqb-true m n (equal-step (nat_lt m n) (m == n) h)

abbrev place_of : ℕ → ℕ → ℕ → Place
place_of file line column = record { file = file; line = line; column = column }

same-place : (a b : Place) → is_eq (compare_places a b) ≡ true → a ≡ b
same-place a b h =
    let outer = both-equal (nat_cmp a.file b.file) (ordering_then (nat_cmp a.line b.line) (nat_cmp a.column b.column)) h in
    let inner = both-equal (nat_cmp a.line b.line) (nat_cmp a.column b.column) outer.1 in
    ap (λ f. place_of f a.line a.column) (same-number a.file b.file outer.0)
    ∙ ap (λ l. place_of b.file l a.column) (same-number a.line b.line inner.0)
    ∙ ap (λ c. place_of b.file b.line c) (same-number a.column b.column inner.1)

abbrev clause_of : ℕ → ℕ → Clause
clause_of level number = record { level = level; number = number }

same-clause : (a b : Clause) → is_eq (compare_clauses a b) ≡ true → a ≡ b
same-clause a b h =
    let both = both-equal (nat_cmp a.level b.level) (nat_cmp a.number b.number) h in
    ap (λ l. clause_of l a.number) (same-number a.level b.level both.0) ∙ ap (λ n. clause_of b.level n) (same-number a.number b.number both.1)

abbrev breach_of : Place → Clause → Breach
breach_of place clause = record { place = place; clause = clause }

pub same-breach : (a b : Breach) → is_eq (compare a b) ≡ true → a ≡ b
same-breach a b h =
    let both = both-equal (compare_places a.place b.place) (compare_clauses a.clause b.clause) h in
    ap (λ p. breach_of p a.clause) (same-place a.place b.place both.0) ∙ ap (λ c. breach_of b.place c) (same-clause a.clause b.clause both.1)
