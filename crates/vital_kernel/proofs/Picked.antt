-- The processes that events make run.
use Rattle.std.proofs.Common.{◌≡◌, ◌∙◌, ℕ, ◌+◌, ◌<◌, ◌≤◌, suc, Bool, true, false, cond, eqb, ◌||◌, List, [], ◌∷◌, length, map, Some, refl, ap, subst, arith}
use Rattle.std.specs.List.{enumerate_from, filter, filter_map, list_any}
use Rattle.std.specs.Prelude.{All, slice_get}
use Rattle.std.proofs.lemmas.List.Elements.{All-cons, filter_agree}
use Rattle.vital_kernel.specs.Cycles.{is_sensitive_to}
use Rattle.vital_kernel.specs.Triggered.{is_triggered, triggered_by}
use Rattle.vital_logic.specs.declared.level.Level.{Level}
use Rattle.vital_kernel.specs.Networks.{NetProcess, sensitivity}

-- ---- the same test

any_map : {X Y : Type 0} (t : Y → Bool) (f : X → Y) (xs : List X) → list_any t (map f xs) ≡ list_any (λ x. t (f x)) xs
any_map t f [] = refl
any_map t f (x ∷ xs) = ap (λ (b : Bool). t (f x) || b) (any_map t f xs)

any_agree : {X : Type 0} (t u : X → Bool) → ((x : X) → t x ≡ u x) → (xs : List X) → list_any t xs ≡ list_any u xs
any_agree t u same [] = refl
any_agree t u same (x ∷ xs) =
    ap (λ (b : Bool). b || list_any t xs) (same x) ∙ ap (λ (b : Bool). u x || b) (any_agree t u same xs)

same_test : (found : List (ℕ × Level)) (p : NetProcess) → is_triggered (map (λ x. x.0) found) (sensitivity p) ≡ is_sensitive_to found p
same_test found p =
    any_agree (λ number. list_any (λ event. eqb event number) (map (λ x. x.0) found)) (λ number. list_any (λ signal. eqb signal.0 number) found)
    (λ number. any_map (λ event. eqb event number) (λ x. x.0) found) (sensitivity p)

-- ---- the same processes

abbrev Found : List ℕ → ℕ → List NetProcess → List (ℕ × List ℕ)
Found events first ps = filter (λ p. is_triggered events p.1) (enumerate_from first (map sensitivity ps))

picked_from : (all : List NetProcess) (events : List ℕ) (first : ℕ) (ps : List NetProcess) → ((k : ℕ) → slice_get all (first + k) ≡ slice_get ps k)
    → filter_map (slice_get all) (map (λ p. p.0) (Found events first ps)) ≡ filter (λ p. is_triggered events (sensitivity p)) ps
picked_from all events first [] there = refl
picked_from all events first (p ∷ ps) there =
    let rest = picked_from all events (first + 1) ps (λ k. subst (λ (i : ℕ). slice_get all i ≡ slice_get ps k) (omega arith) (there (suc k))) in
    let here : slice_get all first ≡ Some p = subst (λ (i : ℕ). slice_get all i ≡ Some p) (omega arith) (there 0) in
    elim (is_triggered events (sensitivity p)) as (λ b. filter_map (slice_get all) (map (λ q. q.0) (cond b ((first, sensitivity p) ∷ Found events (first + 1) ps) (Found events (first + 1) ps)))
    ≡ cond b (p ∷ filter (λ q. is_triggered events (sensitivity q)) ps) (filter (λ q. is_triggered events (sensitivity q)) ps)) [
      | true ↦ rw here (ap (λ (xs : List NetProcess). p ∷ xs) rest)
      | false ↦ rest
    ]

-- those that are listed are those that are sensitive
pub picked : (found : List (ℕ × Level)) (ps : List NetProcess)
    → filter_map (slice_get ps) (triggered_by (map (λ x. x.0) found) (map sensitivity ps)) ≡ filter (is_sensitive_to found) ps
picked found ps =
    picked_from ps (map (λ x. x.0) found) 0 ps (λ k. ap (slice_get ps) (omega arith))
    ∙ filter_agree (λ p. is_triggered (map (λ x. x.0) found) (sensitivity p)) (is_sensitive_to found) (same_test found) ps

-- ---- their numbers

below_from : (events : List ℕ) (first most : ℕ) (ps : List NetProcess) → first + length ps ≤ most → All (λ number. number < most) (map (λ p. p.0) (Found events first ps))
below_from events first most [] le = λ k d lt. absurd (omega (arith, lt))
below_from events first most (p ∷ ps) le =
    let rest = below_from events (first + 1) most ps (omega (arith, le)) in
    elim (is_triggered events (sensitivity p)) as (λ b. All (λ number. number < most) (map (λ q. q.0) (cond b ((first, sensitivity p) ∷ Found events (first + 1) ps) (Found events (first + 1) ps)))) [
      | true ↦ All-cons (λ number. number < most) first (map (λ q. q.0) (Found events (first + 1) ps)) (omega (arith, le)) rest
      | false ↦ rest
    ]

pub triggered_below : (events : List ℕ) (ps : List NetProcess) → All (λ number. number < length ps) (triggered_by events (map sensitivity ps))
triggered_below events ps = below_from events 0 (length ps) ps (omega arith)
