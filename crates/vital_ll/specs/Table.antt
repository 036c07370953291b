-- The table of a predictive grammar.
use Rattle.std.specs.Prelude.{◌≡◌, ℕ, ◌+◌, ◌*◌, ◌/◌, ◌%◌, ◌<◌, ◌≤◌, List, [], length, Option, Some, None, true, IsSome, is_some, All, Contains, slice_index_or}
use Rattle.vital_ll.specs.declared.grammar.Sym.{Sym}
use Rattle.vital_ll.specs.declared.grammar.Sym.TheVariants.{Token, Rule}
use Rattle.vital_ll.specs.declared.derivation.Step.{Step}
use Rattle.vital_ll.specs.declared.expansion.Expansion.{Expansion}
use Rattle.vital_ll.specs.declared.expansion.Expansions.{Expansions}
use Rattle.vital_ll.specs.declared.table.Table.{Table}
use Rattle.vital_ll.specs.Grammar.{Grammar, alternative_of}
use Rattle.vital_ll.specs.Masks.{bit_of, token_at}
use Rattle.vital_ll.specs.Sentence.{Next}
use Rattle.vital_ll.specs.Marks.{has}
use Rattle.vital_ll.specs.Passes.{EachBit}
use Rattle.vital_ll.specs.Choice.{IsChoice, IsWellFormed}
use Rattle.vital_ll.specs.Expansion.{AreExpansions}

-- a kind of token below n
abbrev pub IsBelow : ℕ → Sym → Type 0
IsBelow n (Token u) = u < n
IsBelow n (Rule r) = Unit {0}

-- the alternatives of these steps name kinds below n
abbrev pub AreBelow : Grammar → List Step → ℕ → Type 0
AreBelow g steps n = (s : Step) (chosen : List Sym) → Contains steps s → alternative_of g s.rule s.alternative ≡ Some chosen → All (IsBelow n) chosen

-- the mask of an alternative: the tokens of its choice set, of those whose bits begin at bit `base`
pub record IsChoiceMask (g : Grammar) (r a base mask : ℕ) : Type 0 where
  pub sound : EachBit (λ i. has mask i ≡ true → IsChoice g r a (token_at (base + i)))
  pub complete : (i : ℕ) (t : Next) → i < 128 → bit_of t ≡ base + i → IsChoice g r a t → has mask i ≡ true

-- 128 entries of a rule: the alternatives that these tokens decide for
pub record IsRow (g : Grammar) (r base : ℕ) (choices : List (Option ℕ)) : Type 0 where
  pub size : length choices ≡ 128
  pub there : (i a : ℕ) → i < 128 → slice_index_or choices i None ≡ Some a → IsSome (alternative_of g r a)
  pub only : (i a : ℕ) (t : Next) → i < 128 → bit_of t ≡ base + i → IsChoice g r a t → slice_index_or choices i None ≡ Some a

-- the same of the first n alternatives alone; `seen` has the tokens that have an entry
pub record IsPartOfRow (g : Grammar) (r base n : ℕ) (choices : List (Option ℕ)) (seen : ℕ) : Type 0 where
  pub size : length choices ≡ 128
  pub sound : (i a : ℕ) → i < 128 → slice_index_or choices i None ≡ Some a → (a < n) × IsChoice g r a (token_at (base + i))
  pub entered : EachBit (λ i. has seen i ≡ is_some (slice_index_or choices i None))
  pub only : (i a : ℕ) (t : Next) → i < 128 → bit_of t ≡ base + i → a < n → IsChoice g r a t → slice_index_or choices i None ≡ Some a

-- the rows of a rule, for one block of 128 tokens after another
pub record AreRows (g : Grammar) (r blocks : ℕ) (rows : List (List (Option ℕ))) : Type 0 where
  pub size : length rows ≡ blocks
  pub each : (k : ℕ) → k < blocks → IsRow g r (128 * k) (slice_index_or rows k [])

-- the entry at a bit
abbrev pub entry_at : List (List (Option ℕ)) → ℕ → Option ℕ
entry_at rows bit = slice_index_or (slice_index_or rows (bit / 128) []) (bit % 128) None

-- the rows of each rule, in which each token of a choice set has its bit
pub record HasRows (g : Grammar) (bits : ℕ) (rows : List (List (List (Option ℕ)))) : Type 0 where
  pub size : length rows ≡ length g
  pub sizes : (r : ℕ) → r < length g → bits ≡ 128 * length (slice_index_or rows r [])
  pub there : (r bit a : ℕ) → r < length g → entry_at (slice_index_or rows r []) bit ≡ Some a → IsSome (alternative_of g r a)
  pub only : (r a : ℕ) (t : Next) → IsChoice g r a t → (bit_of t < bits) × (entry_at (slice_index_or rows r []) (bit_of t) ≡ Some a)

-- the column of the token of a bit, from rule n on: an expansion of each rule of which an alternative has the token in its choice set
pub record IsColumnFrom (g : Grammar) (bit : ℕ) (expansions : Expansions) (n : ℕ) (column : List (Option Expansion)) : Type 0 where
  pub size : length column ≡ length g
  pub are_expansions : AreExpansions g bit expansions column
  pub complete : (r a : ℕ) (t : Next) → n ≤ r → bit_of t ≡ bit → IsChoice g r a t → IsSome (slice_index_or column r None)

-- the columns of the first n bits
pub record AreColumns (g : Grammar) (expansions : Expansions) (n : ℕ) (columns : List (List (Option Expansion))) : Type 0 where
  pub size : length columns ≡ n
  pub each : (bit : ℕ) → bit < n → IsColumnFrom g bit expansions 0 (slice_index_or columns bit [])

-- each token of a choice set has a column
pub record IsTable (g : Grammar) (table : Table) : Type 0 where
  pub well_formed : IsWellFormed g
  pub some : 0 < length table.columns.items
  pub columns : AreColumns g table.expansions (length table.columns.items) table.columns.items
  pub complete : (r a : ℕ) (t : Next) → IsChoice g r a t → bit_of t < length table.columns.items

-- the column of a token, or some column where it has none
pub record IsColumn (columns : List (List (Option Expansion))) (t : Next) (column : List (Option Expansion)) : Type 0 where
  pub bit : ℕ
  pub inside : bit < length columns
  pub is : column ≡ slice_index_or columns bit []
  pub token : bit_of t < length columns → bit ≡ bit_of t
