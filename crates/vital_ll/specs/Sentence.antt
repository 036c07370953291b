-- Sentences, their fronts, and the first token that no sentence goes on with.
use Rattle.std.specs.Prelude.{◌≡◌, ℕ, ◌+◌, ◌<◌, List, [], ◌∷◌, ◌++◌, Option, Some, None, take, map}
use Rattle.vital_ll.specs.declared.grammar.Sym.TheVariants.{Rule}
use Rattle.vital_ll.specs.declared.derivation.Step.{Step}
use Rattle.vital_ll.specs.Grammar.{Grammar, Derives}

-- what is next: a token of some kind, or none, which is the end
abbrev pub Next : Type 0
Next = Option ℕ

-- the first of these tokens, or the end where there is none
abbrev pub first_of : List ℕ → Next
first_of [] = None
first_of (t ∷ tokens) = Some t

-- the tokens and the end, which counts as the last
abbrev pub with_end : List ℕ → List Next
with_end tokens = map Some tokens ++ None ∷ []

-- the first rule derives these tokens by this tree
abbrev pub IsTreeOf : Grammar → List ℕ → List Step → Type 0
IsTreeOf g tokens tree = Derives g (Rule 0 ∷ []) tokens tree

-- a list that the first rule derives, with the end
abbrev pub IsSentence : Grammar → List Next → Type 0
IsSentence g whole =
    (tokens : List ℕ) × (tree : List Step) × IsTreeOf g tokens tree × (whole ≡ with_end tokens)

-- these begin some sentence
abbrev pub IsFront : Grammar → List Next → Type 0
IsFront g front = (rest : List Next) × IsSentence g (front ++ rest)

-- token k is the first, the end counted as the last, that no sentence goes on with
pub record IsRefusedAt (g : Grammar) (tokens : List ℕ) (k : ℕ) : Type 0 where
  pub refused : IsFront g (take (k + 1) (with_end tokens)) → ⊥
  pub least : (j : ℕ) → j < k → IsFront g (take (j + 1) (with_end tokens))
