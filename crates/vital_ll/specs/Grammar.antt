-- Grammars, and what they derive.
use Rattle.std.specs.Prelude.{◌≡◌, ℕ, List, [], ◌∷◌, ◌++◌, Option, Some, slice_get}
use Rattle.std.specs.Option.{option_and_then}
use Rattle.vital_ll.specs.declared.grammar.Sym.{Sym}
use Rattle.vital_ll.specs.declared.grammar.Sym.TheVariants.{Token, Rule}
use Rattle.vital_ll.specs.declared.derivation.Step.{Step}

-- a list of rules; a rule is the list of its alternatives, and an alternative a list of symbols
abbrev pub Grammar : Type 0
Grammar = List (List (List Sym))

-- alternative a of rule r, where it is there
abbrev pub alternative_of : Grammar → ℕ → ℕ → Option (List Sym)
alternative_of g r a = option_and_then (λ alternatives. slice_get alternatives a) (slice_get g r)

-- Symbols derive tokens by the steps of a tree in preorder: a token derives itself, and a rule
-- derives what the symbols of one of its alternatives derive.
pub data Derives (g : Grammar) : List Sym → List ℕ → List Step → Type 0 where
  nothing : Derives g [] [] []
  token : {t : ℕ} {rest : List Sym} {tokens : List ℕ} {tree : List Step} →
      Derives g rest tokens tree → Derives g (Token t ∷ rest) (t ∷ tokens) tree
  rule : {r a : ℕ} {chosen rest : List Sym} {us vs : List ℕ} {below after : List Step} →
      alternative_of g r a ≡ Some chosen → Derives g chosen us below → Derives g rest vs after →
      Derives g (Rule r ∷ rest) (us ++ vs) (record { rule = r; alternative = a } ∷ (below ++ after))
