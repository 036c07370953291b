-- What stands at an offset: a separator, a lexeme, neither, or the end of the text, and only one of these.
use Rattle.std.proofs.Common.{◌≡◌, ℕ, ◌<◌, ◌≤◌, List, length, refl, ap, sym, subst, ◌∙◌, ◌⊎◌, inl, inr, ⊎_elim, arith, Option, Some, None}
use Rattle.std.proofs.lemmas.Bool.{cases_lt}
use Rattle.std.proofs.lemmas.Option.{same_Some}
use Rattle.vital_lex.specs.Lexicon.{Lexicon, IsLexicon}
use Rattle.vital_lex.specs.Pieces.{Lexeme, last_kind, IsNext, IsStuck}

cases_Option : {A : Type 0} (o : Option A) → ((a : A) × (o ≡ Some a)) ⊎ (o ≡ None)
cases_Option None = inr refl
cases_Option (Some a) = inl (a, refl)

none_or_some : {A : Type 0} (o : Option A) (a : A) → o ≡ None → o ≡ Some a → ⊥
none_or_some {A = A} o a none some = let both : ◌≡◌ {A = Option A} None (Some a) = sym none ∙ some in cc

-- what stands at an offset
pub data Step {Kind : Type 0} (lexicon : Lexicon Kind) (text : List ℕ) (ls : List (Lexeme Kind)) (at : ℕ) : Type 0 where
  ended : at ≡ length text → Step lexicon text ls at
  stuck : IsStuck lexicon text ls at → Step lexicon text ls at
  separated : (end : ℕ) → lexicon.separator text at ≡ Some end → Step lexicon text ls at
  next : (l : Lexeme Kind) → l.start ≡ at → IsNext lexicon text ls l → Step lexicon text ls at

module _ {Kind : Type 0} (lexicon : Lexicon Kind) where
  pub step_of : (text : List ℕ) (ls : List (Lexeme Kind)) (at : ℕ) → at ≤ length text → Step lexicon text ls at
  step_of text ls at inside =
      ⊎_elim
      (λ more.
      ⊎_elim
      (λ found. separated found.0 found.1)
      (λ no_separator.
      ⊎_elim
      (λ found. next (record { kind = found.0.0; start = at; end = found.0.1 }) refl (record { no_separator = no_separator; lexeme = found.1 }))
      (λ no_lexeme. stuck (record { inside = more; no_separator = no_separator; no_lexeme = no_lexeme }))
      (cases_Option (lexicon.lexeme (last_kind ls) text at)))
      (cases_Option (lexicon.separator text at)))
      (λ none. ended (omega arith))
      (cases_lt at (length text))

  -- a lexeme after others moves on within the text
  module _ (laws : IsLexicon lexicon) where
    pub next_moves : (text : List ℕ) (ls : List (Lexeme Kind)) (l : Lexeme Kind) → IsNext lexicon text ls l → (l.start < l.end) × (l.end ≤ length text)
    next_moves text ls l stands = laws.lexeme_moves (last_kind ls) text l.start l.kind l.end stands.lexeme

  -- each of them rules the others out
  module _ (laws : IsLexicon lexicon) (text : List ℕ) (ls : List (Lexeme Kind)) (at : ℕ) where
    pub ended_separated : at ≡ length text → (end : ℕ) → lexicon.separator text at ≡ Some end → ⊥
    ended_separated at_end end s = let m = laws.separator_moves text at end s in omega (arith, m.0, m.1)

    pub ended_next : at ≡ length text → (l : Lexeme Kind) → l.start ≡ at → IsNext lexicon text ls l → ⊥
    ended_next at_end l starts n = let m = next_moves laws text ls l n in omega (arith, m.0, m.1)

    pub ended_stuck : at ≡ length text → IsStuck lexicon text ls at → ⊥
    ended_stuck at_end s = let i : at < length text = s.inside in omega arith

    pub stuck_separated : IsStuck lexicon text ls at → (end : ℕ) → lexicon.separator text at ≡ Some end → ⊥
    stuck_separated s end found = none_or_some (lexicon.separator text at) end s.no_separator found

    pub stuck_next : IsStuck lexicon text ls at → (l : Lexeme Kind) → l.start ≡ at → IsNext lexicon text ls l → ⊥
    stuck_next s l starts n =
        none_or_some (lexicon.lexeme (last_kind ls) text at) (l.kind, l.end) s.no_lexeme (ap (lexicon.lexeme (last_kind ls) text) (sym starts) ∙ n.lexeme)

    pub separated_next : (end : ℕ) → lexicon.separator text at ≡ Some end → (l : Lexeme Kind) → l.start ≡ at → IsNext lexicon text ls l → ⊥
    separated_next end found l starts n =
        none_or_some (lexicon.separator text at) end (ap (lexicon.separator text) (sym starts) ∙ n.no_separator) found

  pub one_end : (text : List ℕ) (at a b : ℕ) → lexicon.separator text at ≡ Some a → lexicon.separator text at ≡ Some b → a ≡ b
  one_end text at a b x y = same_Some a b (sym x ∙ y)

  same_lexeme : (l k : Lexeme Kind) → l.start ≡ k.start → ◌≡◌ {A = Kind × ℕ} (l.kind, l.end) (k.kind, k.end) → l ≡ k
  same_lexeme l k starts same = λ i. record { kind = (same i).0; start = starts i; end = (same i).1 }

  -- one lexeme comes next
  pub one_next : (text : List ℕ) (ls : List (Lexeme Kind)) (l k : Lexeme Kind) → l.start ≡ k.start → IsNext lexicon text ls l → IsNext lexicon text ls k → l ≡ k
  one_next text ls l k starts x y =
      same_lexeme l k starts (same_Some (l.kind, l.end) (k.kind, k.end) (sym x.lexeme ∙ ap (lexicon.lexeme (last_kind ls) text) starts ∙ y.lexeme))
