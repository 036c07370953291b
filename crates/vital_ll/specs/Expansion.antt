-- Expansions: what a rule comes to before the next token is taken.
use Rattle.std.specs.Prelude.{◌≡◌, ℕ, ◌≤◌, List, [], ◌∷◌, ◌++◌, length, Option, Some, None, slice_range, slice_index_or}
use Rattle.vital_ll.specs.declared.grammar.Sym.{Sym}
use Rattle.vital_ll.specs.declared.grammar.Sym.TheVariants.{Rule}
use Rattle.vital_ll.specs.declared.derivation.Step.{Step}
use Rattle.vital_ll.specs.declared.expansion.Expansion.{Expansion}
use Rattle.vital_ll.specs.declared.expansion.Expansions.{Expansions}
use Rattle.vital_ll.specs.Listing.{step}
use Rattle.vital_ll.specs.Grammar.{Grammar, alternative_of}
use Rattle.vital_ll.specs.Sentence.{Next}
use Rattle.vital_ll.specs.Masks.{bit_of}
use Rattle.vital_ll.specs.Choice.{IsChoice}

-- no token of this bit is in the choice set of another alternative of the rule
abbrev pub IsDecided : Grammar → ℕ → ℕ → ℕ → Type 0
IsDecided g bit r a = (b : ℕ) (t : Next) → bit_of t ≡ bit → IsChoice g r b t → a ≡ b

-- Symbols come to others by steps: each replaces the first symbol, a rule, by the one alternative that the token of this bit
-- decides for.
pub data Expands (g : Grammar) (bit : ℕ) : List Sym → List Sym → List Step → Type 0 where
  nothing : {symbols : List Sym} → Expands g bit symbols symbols []
  replaced : {r a : ℕ} {chosen rest left : List Sym} {steps : List Step} →
      alternative_of g r a ≡ Some chosen → IsDecided g bit r a → Expands g bit (chosen ++ rest) left steps →
      Expands g bit (Rule r ∷ rest) left (step r a ∷ steps)

-- the parts of an expansion are parts of the lists
pub record IsInside (expansions : Expansions) (expansion : Expansion) : Type 0 where
  pub steps_order : expansion.more.start ≤ expansion.more.end
  pub steps : expansion.more.end ≤ length expansions.steps.items
  pub symbols_order : expansion.symbols.start ≤ expansion.symbols.end
  pub symbols : expansion.symbols.end ≤ length expansions.symbols.items

abbrev pub AreInside : Expansions → List (Option Expansion) → Type 0
AreInside expansions column = (r : ℕ) (expansion : Expansion) → slice_index_or column r None ≡ Some expansion → IsInside expansions expansion

-- the steps of an expansion, those after the first, and the symbols that they leave
abbrev pub more_in : Expansions → Expansion → List Step
more_in expansions expansion = slice_range expansions.steps.items expansion.more.start expansion.more.end

abbrev pub steps_in : Expansions → Expansion → List Step
steps_in expansions expansion = expansion.step ∷ more_in expansions expansion

abbrev pub symbols_in : Expansions → Expansion → List Sym
symbols_in expansions expansion = slice_range expansions.symbols.items expansion.symbols.start expansion.symbols.end

-- the rule comes to the symbols of the expansion by its steps
pub record IsExpansion (g : Grammar) (bit : ℕ) (expansions : Expansions) (r : ℕ) (expansion : Expansion) : Type 0 where
  pub inside : IsInside expansions expansion
  pub expands : Expands g bit (Rule r ∷ []) (symbols_in expansions expansion) (steps_in expansions expansion)

-- each entry is an expansion of its rule
abbrev pub AreExpansions : Grammar → ℕ → Expansions → List (Option Expansion) → Type 0
AreExpansions g bit expansions column = (r : ℕ) (expansion : Expansion) → slice_index_or column r None ≡ Some expansion → IsExpansion g bit expansions r expansion

-- a list with more at its end
abbrev pub IsLonger : {A : Type 0} → List A → List A → Type 0
IsLonger {A} old new = (more : List A) × (new ≡ old ++ more)

pub record AreLonger (old new : Expansions) : Type 0 where
  pub steps : IsLonger old.steps.items new.steps.items
  pub symbols : IsLonger old.symbols.items new.symbols.items

-- the symbols begin with a rule that has this expansion, and these are the others
pub record IsFirstExpansion (symbols : List Sym) (column : List (Option Expansion)) (expansion : Expansion) (rest : List Sym) : Type 0 where
  pub r : ℕ
  pub symbols_are : symbols ≡ Rule r ∷ rest
  pub has : slice_index_or column r None ≡ Some expansion

-- the steps were appended by which the symbols come to those that are left
pub record IsPassed (old new : Expansions) (column : List (Option Expansion)) (symbols left : List Sym) : Type 0 where
  pub steps : List Step
  pub steps_are : new.steps.items ≡ old.steps.items ++ steps
  pub expands : (g : Grammar) (bit : ℕ) → AreExpansions g bit old column → Expands g bit symbols left steps
