-- Marks on the rules of a grammar, from which its choice sets are found. Those of 128 tokens are found at once: each rule has a
-- mask, which has a bit for each of these tokens.
use Rattle.std.specs.Prelude.{◌≡◌, ℕ, ◌+◌, ◌-◌, ◌^◌, ◌<◌, Bool, true, false, ◌&&◌, ◌||◌, ◌==◌, List, [], ◌∷◌, ◌++◌, length, Some, None, slice_index, slice_set}
use Rattle.std.specs.Int.{bit_at}
use Rattle.std.specs.Int.Bits.{bit_or}
use Rattle.vital_ll.specs.declared.grammar.Sym.{Sym}
use Rattle.vital_ll.specs.declared.grammar.Sym.TheVariants.{Token, Rule}
use Rattle.vital_ll.specs.Grammar.{Grammar, alternative_of}
use Rattle.vital_ll.specs.Sentence.{Next}
use Rattle.vital_ll.specs.Choice.{CanBegin, CanBeEmpty, IsForm, Follows}

-- which rules are marked
abbrev pub Marks : Type 0
Marks = ℕ → Bool

-- whether a mask has a bit
abbrev pub has : ℕ → ℕ → Bool
has mask i = bit_at mask i == 1

-- the marks that bit i of each rule's mask says
abbrev pub marked : List ℕ → ℕ → Marks
marked masks i r = has (slice_index masks r) i

-- whether each symbol is a marked rule
abbrev pub empties : Marks → List Sym → Bool
empties nullable [] = true
empties nullable (Token u ∷ rest) = false
empties nullable (Rule r ∷ rest) = nullable r && empties nullable rest

-- whether a token of this kind is the next one
abbrev pub is_of_kind : ℕ → Next → Bool
is_of_kind u None = false
is_of_kind u (Some k) = u == k

-- whether the symbols can begin with the token: they begin with it, or with a rule that does, past rules
-- that can be empty; `after` says whether what comes after them can
abbrev pub begins : Marks → Marks → Next → Bool → List Sym → Bool
begins nullable first t after [] = after
begins nullable first t after (Token u ∷ rest) = is_of_kind u t
begins nullable first t after (Rule r ∷ rest) = first r || (nullable r && begins nullable first t after rest)

-- a rule is marked if an alternative has only marked rules
abbrev pub EmptyClosed : Grammar → Marks → Type 0
EmptyClosed g nullable =
    (r a : ℕ) (chosen : List Sym) → alternative_of g r a ≡ Some chosen → empties nullable chosen ≡ true → nullable r ≡ true

-- a rule is marked if an alternative can begin with the token
abbrev pub FirstClosed : Grammar → Marks → Marks → Next → Type 0
FirstClosed g nullable first t =
    (r a : ℕ) (chosen : List Sym) → alternative_of g r a ≡ Some chosen → begins nullable first t false chosen ≡ true → first r ≡ true

-- a rule is marked if an alternative of a marked rule names it
abbrev pub ReachClosed : Grammar → Marks → Type 0
ReachClosed g reached =
    (r a s : ℕ) (before after : List Sym) → alternative_of g r a ≡ Some (before ++ Rule s ∷ after) → reached r ≡ true → reached s ≡ true

-- a rule is marked if what comes after it, in an alternative of a rule that is reached, can begin with the token
abbrev pub FollowClosed : Grammar → Marks → Marks → Marks → Marks → Next → Type 0
FollowClosed g nullable first reached follow t =
    (r a s : ℕ) (before after : List Sym) → alternative_of g r a ≡ Some (before ++ Rule s ∷ after) → reached r ≡ true →
    begins nullable first t (follow r) after ≡ true → follow s ≡ true

-- the rule stands in some form
abbrev pub IsReached : Grammar → ℕ → Type 0
IsReached g r = (before : List Sym) × (after : List Sym) × IsForm g (before ++ Rule r ∷ after)

-- what each mark says
abbrev pub EmptySound : Grammar → Marks → Type 0
EmptySound g nullable = (r : ℕ) → nullable r ≡ true → CanBeEmpty g (Rule r ∷ [])

abbrev pub FirstSound : Grammar → Marks → Next → Type 0
FirstSound g first t = (r : ℕ) → first r ≡ true → CanBegin g (Rule r ∷ []) t

abbrev pub ReachSound : Grammar → Marks → Type 0
ReachSound g reached = (r : ℕ) → reached r ≡ true → IsReached g r

abbrev pub FollowSound : Grammar → Marks → Next → Type 0
FollowSound g follow t = (r : ℕ) → follow r ≡ true → Follows g r t

-- these bits were added to the mask of a rule, which has 128 of them; `changed` says whether one of them is new
pub record IsAdded (old new : List ℕ) (rule bits : ℕ) (changed : Bool) : Type 0 where
  pub masks : new ≡ slice_set old rule (bit_or (slice_index old rule) bits)
  pub fits : bit_or (slice_index old rule) bits < 2 ^ 128
  pub same : changed ≡ false → bit_or (slice_index old rule) bits ≡ slice_index old rule
  pub other : changed ≡ true → bit_or (slice_index old rule) bits ≡ slice_index old rule → ⊥

-- how far the masks are from having all bits
abbrev pub unmarked : List ℕ → ℕ
unmarked [] = 0
unmarked (mask ∷ masks) = (2 ^ 128 - mask) + unmarked masks

-- Marks were added, each bit with a reason where those before had theirs; where none was, there was nothing to add.
pub record IsTurn (Reason : ℕ → ℕ → Type 0) (Settled : List ℕ → Type 0) (old new : List ℕ) (changed : Bool) : Type 0 where
  pub len : length new ≡ length old
  pub sound : ((i r : ℕ) → i < 128 → marked old i r ≡ true → Reason i r) → (i r : ℕ) → i < 128 → marked new i r ≡ true → Reason i r
  pub kept : (i r : ℕ) → marked old i r ≡ true → marked new i r ≡ true
  pub quiet : changed ≡ false → (new ≡ old) × Settled old
  pub fewer : changed ≡ true → unmarked new < unmarked old

-- Marks were added until there was nothing to add.
pub record IsSaturated (Reason : ℕ → ℕ → Type 0) (Settled : List ℕ → Type 0) (old new : List ℕ) : Type 0 where
  pub len : length new ≡ length old
  pub sound : ((i r : ℕ) → i < 128 → marked old i r ≡ true → Reason i r) → (i r : ℕ) → i < 128 → marked new i r ≡ true → Reason i r
  pub kept : (i r : ℕ) → marked old i r ≡ true → marked new i r ≡ true
  pub settled : Settled new
