-- Turns that add bits to masks.
use Rattle.std.proofs.Common.{◌≡◌, ℕ, zero, suc, ◌^◌, ◌<◌, ◌≤◌, Bool, true, false, List, [], ◌∷◌, length, get_or, set, refl, sym, ap, ◌∙◌, subst, arith, inl, inr, ◌⊎◌}
use Rattle.std.specs.Int.Bits.{bit_or}
use Rattle.std.proofs.lemmas.Bool.{cases_eq, or_cases, or_left, or_right}
use Rattle.std.proofs.lemmas.List.{length-set, set-get_or, get_or-set_same, get_or-set_other}
use Rattle.std.proofs.lemmas.Nat.{le_or_l}
use Rattle.vital_ll.specs.Marks.{has, marked, unmarked, IsAdded, IsTurn}
use Rattle.vital_ll.proofs.Bits.{has-or}

-- nothing was added
pub turn_quiet : (Reason : ℕ → ℕ → Type 0) (Settled : List ℕ → Type 0) (masks : List ℕ) → Settled masks → IsTurn Reason Settled masks masks false
turn_quiet Reason Settled masks settled = record {
  len = refl;
  sound = λ s. s;
  kept = λ i r h. h;
  quiet = λ _. (refl, settled);
  fewer = λ (e : false ≡ true). absurd (cc);
}

unmarked-set : (masks : List ℕ) (r mask : ℕ) → r < length masks → get_or masks r 0 < mask → mask < 2 ^ 128 → unmarked (set masks r mask) < unmarked masks
unmarked-set [] r mask h more low = absurd (omega arith)
unmarked-set (m ∷ masks) zero mask h more low = omega arith
unmarked-set (m ∷ masks) (suc r) mask h more low = let ih : unmarked (set masks r mask) < unmarked masks = unmarked-set masks r mask (omega arith) more low in omega arith

-- what is marked after bits were added to a rule's mask
mark_cases : (masks : List ℕ) (r bits i q : ℕ) → r < length masks → marked (set masks r (bit_or (get_or masks r 0) bits)) i q ≡ true → (marked masks i q ≡ true) ⊎ ((q ≡ r) × (has bits i ≡ true))
mark_cases masks r bits i q inside h =
    elim (cases_eq q r) [
      | inl same ↦
          let at : has (bit_or (get_or masks r 0) bits) i ≡ true = ap (λ (x : ℕ). has x i) (sym (get_or-set_same masks r (bit_or (get_or masks r 0) bits) 0 inside)) ∙ ap (λ (x : ℕ). marked (set masks r (bit_or (get_or masks r 0) bits)) i x) (sym same) ∙ h in
          elim (or_cases (has (get_or masks r 0) i) (has bits i) (sym (has-or (get_or masks r 0) bits i) ∙ at)) [
            | inl old ↦ inl (ap (λ (x : ℕ). marked masks i x) same ∙ old)
            | inr new ↦ inr (same, new)
          ]
      | inr other ↦ inl (ap (λ (x : ℕ). has x i) (sym (get_or-set_other masks r q (bit_or (get_or masks r 0) bits) 0 other)) ∙ h)
    ]

-- a mark is kept where bits are added
mark_kept : (masks : List ℕ) (r bits i q : ℕ) → r < length masks → marked masks i q ≡ true → marked (set masks r (bit_or (get_or masks r 0) bits)) i q ≡ true
mark_kept masks r bits i q inside h =
    elim (cases_eq q r) [
      | inl same ↦
          ap (λ (x : ℕ). marked (set masks r (bit_or (get_or masks r 0) bits)) i x) same ∙ ap (λ (x : ℕ). has x i) (get_or-set_same masks r (bit_or (get_or masks r 0) bits) 0 inside)
          ∙ has-or (get_or masks r 0) bits i ∙ or_left (has (get_or masks r 0) i) (has bits i) (ap (λ (x : ℕ). marked masks i x) (sym same) ∙ h)
      | inr other ↦ ap (λ (x : ℕ). has x i) (get_or-set_other masks r q (bit_or (get_or masks r 0) bits) 0 other) ∙ h
    ]

-- bits were added that are in the mask already, or each for a reason
pub turn_add : (Reason : ℕ → ℕ → Type 0) (Settled : List ℕ → Type 0) (old new : List ℕ) (r bits : ℕ) (changed : Bool) → r < length old → IsAdded old new r bits changed →
    (((i q : ℕ) → i < 128 → marked old i q ≡ true → Reason i q) → (i : ℕ) → i < 128 → has bits i ≡ true → Reason i r) →
    (((i : ℕ) → i < 128 → has bits i ≡ true → marked old i r ≡ true) → Settled old) → IsTurn Reason Settled old new changed
turn_add Reason Settled old new r bits changed inside added reason settled =
    subst (λ (l : List ℕ). IsTurn Reason Settled old l changed) (sym added.masks) (go changed added.same added.other)
  where
    go : (b : Bool) → (b ≡ false → bit_or (get_or old r 0) bits ≡ get_or old r 0) → (b ≡ true → bit_or (get_or old r 0) bits ≡ get_or old r 0 → ⊥) →
        IsTurn Reason Settled old (set old r (bit_or (get_or old r 0) bits)) b
    go false same other =
        let e : bit_or (get_or old r 0) bits ≡ get_or old r 0 = same refl in
        let same_masks : set old r (bit_or (get_or old r 0) bits) ≡ old = ap (λ (x : ℕ). set old r x) e ∙ set-get_or old r 0 in
        subst (λ (l : List ℕ). IsTurn Reason Settled old l false) (sym same_masks)
        (turn_quiet Reason Settled old (settled (λ i low h. ap (λ (x : ℕ). has x i) (sym e) ∙ has-or (get_or old r 0) bits i ∙ or_right (has (get_or old r 0) i) (has bits i) h)))
    go true same other = record {
      len = length-set old r (bit_or (get_or old r 0) bits);
      sound = λ s i q low h. elim (mark_cases old r bits i q inside h) [ inl f ↦ s i q low f | inr f ↦ subst (λ (x : ℕ). Reason i x) (sym f.0) (reason s i low f.1) ];
      kept = λ i q h. mark_kept old r bits i q inside h;
      quiet = λ (x : true ≡ false). absurd (cc);
      fewer = λ _. unmarked-set old r (bit_or (get_or old r 0) bits) inside (let least : get_or old r 0 ≤ bit_or (get_or old r 0) bits = le_or_l (get_or old r 0) bits in let differ : bit_or (get_or old r 0) bits ≡ get_or old r 0 → ⊥ = other refl in omega arith) added.fits;
    }
