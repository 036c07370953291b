-- What comes of reading a list of tokens.
use Rattle.std.specs.Prelude.{ℕ, List, Result, Ok, Err}
use Rattle.vital_ll.specs.declared.derivation.Step.{Step}
use Rattle.vital_ll.specs.Grammar.{Grammar}
use Rattle.vital_ll.specs.Sentence.{IsTreeOf, IsRefusedAt}

-- a tree that derives the tokens; or no tree does, and the token is the first that no sentence goes on with
abbrev pub IsReading : Grammar → List ℕ → Result (List Step) ℕ → Type 0
IsReading g tokens (Ok tree) = IsTreeOf g tokens tree
IsReading g tokens (Err k) = ((tree : List Step) → IsTreeOf g tokens tree → ⊥) × IsRefusedAt g tokens k
