-- Nesting and limits of lexemes, one lexeme after another.
use Rattle.std.proofs.Common.{◌≡◌, ℕ, ◌+◌, ◌<◌, ◌≤◌, List, [], ◌∷◌, ◌++◌, length, take, refl, ap, sym, subst, ◌∙◌, ⊎_elim, arith, Option, Some, None}
use Rattle.std.proofs.lemmas.Bool.{cases_lt}
use Rattle.std.proofs.lemmas.List.{take_all, take-append-le, length_push}
use Rattle.vital_lex.specs.Lexicon.{Lexicon}
use Rattle.vital_lex.specs.Nesting.{nesting, nesting_from}
use Rattle.vital_lex.specs.Outcome.{IsWithin}
use Rattle.vital_lex.specs.Pieces.{Lexeme, last_kind}

module _ {Kind : Type 0} where
  -- the kind of the last of these lexemes, or the one before them
  abbrev last_after : Option Kind → List (Lexeme Kind) → Option Kind
  last_after before [] = before
  last_after before (l ∷ ls) = last_after (Some l.kind) ls

  last_after-is : (before : Option Kind) (l : Lexeme Kind) (ls : List (Lexeme Kind)) → last_after before (l ∷ ls) ≡ last_kind (l ∷ ls)
  last_after-is before l [] = refl
  last_after-is before l (k ∷ ls) = last_after-is (Some l.kind) k ls

  last_kind-is : (ls : List (Lexeme Kind)) → last_after None ls ≡ last_kind ls
  last_kind-is [] = refl
  last_kind-is (l ∷ ls) = last_after-is None l ls

  last_after-push : (before : Option Kind) (ls : List (Lexeme Kind)) (l : Lexeme Kind) → last_after before (ls ++ l ∷ []) ≡ Some l.kind
  last_after-push before [] l = refl
  last_after-push before (k ∷ ls) l = last_after-push (Some k.kind) ls l

  pub last_kind-push : (ls : List (Lexeme Kind)) (l : Lexeme Kind) → last_kind (ls ++ l ∷ []) ≡ Some l.kind
  last_kind-push ls l = sym (last_kind-is (ls ++ l ∷ [])) ∙ last_after-push None ls l

  module _ (lexicon : Lexicon Kind) where
    nesting_from-push : (before : Option Kind) (depth : ℕ) (ls : List (Lexeme Kind)) (l : Lexeme Kind)
        → nesting_from lexicon before depth (ls ++ l ∷ []) ≡ lexicon.nesting_after (last_after before ls) (nesting_from lexicon before depth ls) l.kind
    nesting_from-push before depth [] l = refl
    nesting_from-push before depth (k ∷ ls) l = nesting_from-push (Some k.kind) (lexicon.nesting_after before depth k.kind) ls l

    pub nesting-push : (ls : List (Lexeme Kind)) (l : Lexeme Kind) → nesting lexicon (ls ++ l ∷ []) ≡ lexicon.nesting_after (last_kind ls) (nesting lexicon ls) l.kind
    unfolding nesting
    nesting-push ls l = nesting_from-push None 0 ls l ∙ ap (λ b. lexicon.nesting_after b (nesting_from lexicon None 0 ls) l.kind) (last_kind-is ls)

    pub nesting-none : nesting lexicon [] ≡ 0
    unfolding nesting
    nesting-none = refl

    module _ (room : ℕ) where
      pub within_none : IsWithin lexicon room []
      within_none = record {
        few = omega arith;
        shallow = λ n at_most. let h : nesting lexicon (take n []) ≡ 0 = ap (nesting lexicon) (take_all n [] (omega arith)) ∙ nesting-none in omega arith;
      }

      pub within_nesting : (ls : List (Lexeme Kind)) → IsWithin lexicon room ls → nesting lexicon ls ≤ 64
      within_nesting ls within = subst (λ (xs : List (Lexeme Kind)). nesting lexicon xs ≤ 64) (take_all (length ls) ls (omega arith)) (within.shallow (length ls) (omega arith))

      pub within_push : (ls : List (Lexeme Kind)) (l : Lexeme Kind) → IsWithin lexicon room ls → length ls < room → nesting lexicon (ls ++ l ∷ []) ≤ 64
          → IsWithin lexicon room (ls ++ l ∷ [])
      within_push ls l within more shallow =
          let longer = length_push ls l in
          record {
            few = omega arith;
            shallow = λ n at_most.
                ⊎_elim
                (λ all. let same : nesting lexicon (take n (ls ++ l ∷ [])) ≡ nesting lexicon (ls ++ l ∷ []) = ap (nesting lexicon) (take_all n (ls ++ l ∷ []) (omega arith)) in omega arith)
                (λ front. let same : nesting lexicon (take n (ls ++ l ∷ [])) ≡ nesting lexicon (take n ls) = ap (nesting lexicon) (take-append-le n ls (l ∷ []) front) in omega (arith, within.shallow n front))
                (cases_lt (length ls) n);
          }

      pub within_front : (ls : List (Lexeme Kind)) (l : Lexeme Kind) → IsWithin lexicon room (ls ++ l ∷ [])
          → IsWithin lexicon room ls × (length ls < room) × (nesting lexicon (ls ++ l ∷ []) ≤ 64)
      within_front ls l within =
          let longer = length_push ls l in
          let few = within.few in (
            record {
              few = omega arith;
              shallow = λ n front.
                  let same : nesting lexicon (take n (ls ++ l ∷ [])) ≡ nesting lexicon (take n ls) = ap (nesting lexicon) (take-append-le n ls (l ∷ []) front) in
                  omega (arith, within.shallow n (omega arith));
            },
            omega arith,
            within_nesting (ls ++ l ∷ []) within,
          )
