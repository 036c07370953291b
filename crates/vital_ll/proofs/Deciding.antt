-- The alternative that the masks decide for at the next token.
use Rattle.std.proofs.Common.{◌≡◌, ℕ, zero, suc, true, List, [], ◌∷◌, Option, Some, None, slice_get, refl, subst, inl, inr, ◌⊎◌}
use Rattle.std.proofs.lemmas.Bool.{cases_eq}
use Rattle.std.specs.Int.{bit_at}
use Rattle.std.specs.Option.{option_and_then}
use Rattle.vital_ll.specs.declared.grammar.Sym.{Sym}
use Rattle.vital_ll.specs.Grammar.{Grammar, alternative_of}
use Rattle.vital_ll.specs.Sentence.{Next}
use Rattle.vital_ll.specs.Choice.{IsChoice}
use Rattle.vital_ll.specs.Masks.{MaskTable, follow_at, bit_of, mask_of, are_closed, decides, choice_mask}
use Rattle.vital_ll.proofs.ByTables.{Has, mask_holds, masks_apart}

-- an alternative whose mask has the token
pub record Marked (table : MaskTable) (after : ℕ) (t : Next) (alternative : ℕ → Option (List Sym)) : Type 0 where
  pub a : ℕ
  pub chosen : List Sym
  pub is : alternative a ≡ Some chosen
  pub has : Has (mask_of table after chosen) t

-- the mask of none has it
abbrev pub Unmarked : MaskTable → ℕ → Next → (ℕ → Option (List Sym)) → Type 0
Unmarked table after t alternative = (a : ℕ) (chosen : List Sym) → alternative a ≡ Some chosen → Has (mask_of table after chosen) t → ⊥

-- one more that has no mark
unmarked_more : (table : MaskTable) (after : ℕ) (t : Next) (c : List Sym) (alternatives : List (List Sym)) → (Has (mask_of table after c) t → ⊥) →
    Unmarked table after t (slice_get alternatives) → Unmarked table after t (slice_get (c ∷ alternatives))
unmarked_more table after t c alternatives here later zero d is h =
    let same : d ≡ c = cc in here (subst (λ (l : List Sym). Has (mask_of table after l) t) same h)
unmarked_more table after t c alternatives here later (suc a) d is h = later a d is h

-- one of the alternatives is marked, or none is
marked_or_none : (table : MaskTable) (after : ℕ) (t : Next) (alternatives : List (List Sym)) → Marked table after t (slice_get alternatives) ⊎ Unmarked table after t (slice_get alternatives)
marked_or_none table after t [] = inr (λ a chosen is h. cc)
marked_or_none table after t (c ∷ alternatives) =
    elim (cases_eq (bit_at (mask_of table after c) (bit_of t)) 1) [
      | inl here ↦ inl (record { a = zero; chosen = c; is = refl; has = here })
      | inr not_here ↦ elim (marked_or_none table after t alternatives) [
        | inl m ↦ inl (record { a = suc m.a; chosen = m.chosen; is = m.is; has = m.has })
        | inr none ↦ inr (unmarked_more table after t c alternatives not_here none)
      ]
    ]

-- the same of a rule that may be there
marked_in : (table : MaskTable) (after : ℕ) (t : Next) (rule : Option (List (List Sym))) →
    Marked table after t (λ a. option_and_then (λ alternatives. slice_get alternatives a) rule) ⊎ Unmarked table after t (λ a. option_and_then (λ alternatives. slice_get alternatives a) rule)
marked_in table after t None = inr (λ a chosen is h. cc)
marked_in table after t (Some alternatives) =
    elim (marked_or_none table after t alternatives) [
      | inl m ↦ inl (record { a = m.a; chosen = m.chosen; is = m.is; has = m.has })
      | inr none ↦ inr none
    ]

-- the one alternative that can be chosen at the token
pub record Decided (g : Grammar) (r : ℕ) (t : Next) : Type 0 where
  pub a : ℕ
  pub chosen : List Sym
  pub is : alternative_of g r a ≡ Some chosen
  pub only : (b : ℕ) → IsChoice g r b t → b ≡ a

-- no other alternative than the marked one can be chosen
only_marked : (g : Grammar) (table : MaskTable) (r : ℕ) (t : Next) (a b : ℕ) (chosen : List Sym) → are_closed g table ≡ true → decides g table ≡ true → alternative_of g r a ≡ Some chosen →
    Has (choice_mask table r chosen) t → IsChoice g r b t → b ≡ a
only_marked g table r t a b chosen closed apart is has choice =
    elim (cases_eq b a) [
      | inl same ↦ same
      | inr other ↦ absurd (masks_apart g table r b a t choice.0 chosen apart choice.1 is other (mask_holds g table r b t choice.0 closed choice.1 choice) has)
    ]

-- closed masks that do not meet decide for an alternative at the token, or none can be chosen
pub decide : (g : Grammar) (table : MaskTable) (r : ℕ) (t : Next) → are_closed g table ≡ true → decides g table ≡ true → Decided g r t ⊎ ((a : ℕ) → IsChoice g r a t → ⊥)
decide g table r t closed apart =
    elim (marked_in table (follow_at table r) t (slice_get g r)) [
      | inl m ↦ inl (record { a = m.a; chosen = m.chosen; is = m.is; only = λ b choice. only_marked g table r t m.a b m.chosen closed apart m.is m.has choice })
      | inr none ↦ inr (λ a choice. none a choice.0 choice.1 (mask_holds g table r a t choice.0 closed choice.1 choice))
    ]
