-- Choice sets, and the grammars that the next token decides.
use Rattle.std.specs.Prelude.{◌≡◌, ◌≢◌, ℕ, ◌<◌, ◌≤◌, List, [], ◌∷◌, ◌++◌, length, Some, All, ◌⊎◌}
use Rattle.vital_ll.specs.declared.grammar.Sym.{Sym}
use Rattle.vital_ll.specs.declared.grammar.Sym.TheVariants.{Token, Rule}
use Rattle.vital_ll.specs.declared.derivation.Step.{Step}
use Rattle.vital_ll.specs.Grammar.{Grammar, alternative_of, Derives}
use Rattle.vital_ll.specs.Sentence.{Next, first_of}

-- symbols derive a list that begins with this token; none begins with the end
abbrev pub CanBegin : Grammar → List Sym → Next → Type 0
CanBegin g symbols t = (k : ℕ) × (rest : List ℕ) × (tree : List Step) × (t ≡ Some k) × Derives g symbols (k ∷ rest) tree

-- symbols derive the empty list
abbrev pub CanBeEmpty : Grammar → List Sym → Type 0
CanBeEmpty g symbols = (tree : List Step) × Derives g symbols [] tree

-- symbols derive a list that begins with this token, or the empty list where this is the end
abbrev pub CanGoOn : Grammar → List Sym → Next → Type 0
CanGoOn g symbols t = (tokens : List ℕ) × (tree : List Step) × Derives g symbols tokens tree × (first_of tokens ≡ t)

-- What the first rule becomes by replacing a rule with the symbols of one of its alternatives, any number of times.
pub data IsForm (g : Grammar) : List Sym → Type 0 where
  start : IsForm g (Rule 0 ∷ [])
  replaced : (before after chosen : List Sym) (r a : ℕ) →
      IsForm g (before ++ Rule r ∷ after) → alternative_of g r a ≡ Some chosen →
      IsForm g (before ++ (chosen ++ after))

-- the token, or the end, follows the rule in some sentence
abbrev pub Follows : Grammar → ℕ → Next → Type 0
Follows g r t =
    (before : List Sym) × (after : List Sym) × IsForm g (before ++ Rule r ∷ after) × CanGoOn g after t

-- the choice set of alternative a of rule r: the tokens that begin one of its sentences and, where it
-- has the empty sentence, those that follow the rule in some sentence
abbrev pub IsChoice : Grammar → ℕ → ℕ → Next → Type 0
IsChoice g r a t =
    (chosen : List Sym) × (alternative_of g r a ≡ Some chosen)
    × (CanBegin g chosen t ⊎ (CanBeEmpty g chosen × Follows g r t))

-- the choice sets of two alternatives of the rule share a token
abbrev pub HasConflict : Grammar → ℕ → Type 0
HasConflict g r = (a : ℕ) × (b : ℕ) × (t : Next) × (a ≢ b) × IsChoice g r a t × IsChoice g r b t

-- the next token decides between the alternatives of each rule
abbrev pub IsPredictive : Grammar → Type 0
IsPredictive g = (r : ℕ) → HasConflict g r → ⊥

-- rule r is the first whose choice sets meet
pub record IsFirstConflict (g : Grammar) (r : ℕ) : Type 0 where
  pub meets : HasConflict g r
  pub least : (s : ℕ) → s < r → HasConflict g s → ⊥

-- the rule is one of the first n
abbrev pub IsNamed : ℕ → Sym → Type 0
IsNamed n (Token t) = Unit {0}
IsNamed n (Rule r) = r < n

-- what a grammar has to meet: 1 to 65,535 rules, at most 65,535 alternatives a rule, each rule that is
-- named is there, and each rule derives some list of tokens
pub record IsWellFormed (g : Grammar) : Type 0 where
  pub some_rule : 0 < length g
  pub few_rules : length g ≤ 65535
  pub few_alternatives : All (λ alternatives. length alternatives ≤ 65535) g
  pub named : All (All (All (IsNamed (length g)))) g
  pub derives : (r : ℕ) → r < length g → (tokens : List ℕ) × (tree : List Step) × Derives g (Rule r ∷ []) tokens tree
