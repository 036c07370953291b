-- When a pass has nothing more to mark at an alternative, or at a symbol of one, and what the marks come to.
use Rattle.std.specs.Prelude.{◌≡◌, ℕ, ◌+◌, ◌*◌, ◌<◌, true, false, List, ◌∷◌, ◌++◌, length, Some, slice_get}
use Rattle.vital_ll.specs.declared.grammar.Sym.{Sym}
use Rattle.vital_ll.specs.declared.grammar.Sym.TheVariants.{Rule}
use Rattle.vital_ll.specs.declared.derivation.Step.{Step}
use Rattle.vital_ll.specs.declared.blocks.Block.{Block}
use Rattle.vital_ll.specs.declared.listing.Place.{Place}
use Rattle.vital_ll.specs.Grammar.{Grammar, alternative_of}
use Rattle.vital_ll.specs.Choice.{IsWellFormed}
use Rattle.vital_ll.specs.Masks.{token_at}
use Rattle.vital_ll.specs.Sentence.{Next}
use Rattle.vital_ll.specs.Marks.{Marks, marked, empties, begins, EmptySound, FirstSound, ReachSound, FollowSound, EmptyClosed, FirstClosed, ReachClosed, FollowClosed}
use Rattle.vital_ll.specs.Listing.{ListsSteps, ListsPlaces}

-- of a list's element number k
abbrev pub At : {A : Type 0} → List A → ℕ → (A → Type 0) → Type 0
At xs k P = (x : _) → slice_get xs k ≡ Some x → P x

-- of each bit of a mask
abbrev pub EachBit : (ℕ → Type 0) → Type 0
EachBit P = (i : ℕ) → i < 128 → P i

abbrev pub EmptyAt : Grammar → Marks → Step → Type 0
EmptyAt g marks s =
    (chosen : List Sym) → alternative_of g s.rule s.alternative ≡ Some chosen → empties marks chosen ≡ true → marks s.rule ≡ true

abbrev pub FirstAt : Grammar → Marks → Next → Marks → Step → Type 0
FirstAt g nullable t marks s =
    (chosen : List Sym) → alternative_of g s.rule s.alternative ≡ Some chosen → begins nullable marks t false chosen ≡ true → marks s.rule ≡ true

-- the rule is named at this place, with these symbols after it
abbrev pub IsNamedAt : Grammar → Place → ℕ → List Sym → Type 0
IsNamedAt g p r after =
    (before : List Sym) × (alternative_of g p.step.rule p.step.alternative ≡ Some (before ++ Rule r ∷ after)) × (length before ≡ p.symbol)

abbrev pub ReachAt : Grammar → Marks → Place → Type 0
ReachAt g marks p =
    (r : ℕ) (after : List Sym) → IsNamedAt g p r after → marks p.step.rule ≡ true → marks r ≡ true

abbrev pub FollowAt : Grammar → Marks → Marks → Marks → Next → Marks → Place → Type 0
FollowAt g nullable first reached t marks p =
    (r : ℕ) (after : List Sym) → IsNamedAt g p r after → reached p.step.rule ≡ true →
    begins nullable first t (marks p.step.rule) after ≡ true → marks r ≡ true

-- what the masks for what follows are found from
pub record FollowsFrom (g : Grammar) (steps : List Step) (places : List Place) (base : ℕ) (nullable first reached : List ℕ) : Type 0 where
  pub well_formed : IsWellFormed g
  pub lists : ListsPlaces g steps places
  pub nullable_len : length nullable ≡ length g
  pub first_len : length first ≡ length g
  pub reached_len : length reached ≡ length g
  pub empty_sound : EachBit (λ i. EmptySound g (marked nullable i))
  pub first_sound : EachBit (λ i. FirstSound g (marked first i) (token_at (base + i)))
  pub reach_sound : EachBit (λ i. ReachSound g (marked reached i))

-- the marks of the rules that can be empty
pub record AreNullable (g : Grammar) (marks : Marks) : Type 0 where
  pub sound : EmptySound g marks
  pub closed : EmptyClosed g marks

-- the marks of the rules that can begin with the token
pub record AreFirst (g : Grammar) (nullable : Marks) (t : Next) (marks : Marks) : Type 0 where
  pub sound : FirstSound g marks t
  pub closed : FirstClosed g nullable marks t

-- the marks of the rules that stand in some form
pub record AreReached (g : Grammar) (marks : Marks) : Type 0 where
  pub sound : ReachSound g marks
  pub closed : ReachClosed g marks
  pub at_first : marks 0 ≡ true

-- the marks of the rules that the token of this bit follows
pub record AreFollowed (g : Grammar) (nullable first reached : Marks) (bit : ℕ) (marks : Marks) : Type 0 where
  pub sound : FollowSound g marks (token_at bit)
  pub closed : FollowClosed g nullable first reached marks (token_at bit)
  pub at_end : bit ≡ 0 → marks 0 ≡ true

-- the same as masks, one for each rule, which begin at bit `base`
pub record NullableMasks (g : Grammar) (masks : List ℕ) : Type 0 where
  pub len : length masks ≡ length g
  pub each : EachBit (λ i. AreNullable g (marked masks i))

pub record FirstMasks (g : Grammar) (nullable : List ℕ) (base : ℕ) (masks : List ℕ) : Type 0 where
  pub len : length masks ≡ length g
  pub each : EachBit (λ i. AreFirst g (marked nullable i) (token_at (base + i)) (marked masks i))

pub record ReachedMasks (g : Grammar) (masks : List ℕ) : Type 0 where
  pub len : length masks ≡ length g
  pub each : EachBit (λ i. AreReached g (marked masks i))

pub record FollowMasks (g : Grammar) (nullable first reached : List ℕ) (base : ℕ) (masks : List ℕ) : Type 0 where
  pub len : length masks ≡ length g
  pub each : EachBit (λ i. AreFollowed g (marked nullable i) (marked first i) (marked reached i) (base + i) (marked masks i))

-- the marks of one token
pub record AreSets (g : Grammar) (bit : ℕ) (nullable first reached follow : Marks) : Type 0 where
  pub nullable_is : AreNullable g nullable
  pub first_is : AreFirst g nullable (token_at bit) first
  pub reached_is : AreReached g reached
  pub follow_is : AreFollowed g nullable first reached bit follow

-- what is found once for all tokens
pub record IsAnalysis (g : Grammar) (steps : List Step) (places : List Place) (nullable reached : List ℕ) : Type 0 where
  pub well_formed : IsWellFormed g
  pub lists_steps : ListsSteps g steps
  pub lists_places : ListsPlaces g steps places
  pub nullable_is : NullableMasks g nullable
  pub reached_is : ReachedMasks g reached

-- the masks of 128 tokens, whose bits begin at bit `base`: of those that begin rules, and of those that follow them
pub record IsBlock (g : Grammar) (nullable : List ℕ) (base : ℕ) (block : Block) : Type 0 where
  pub base_is : block.base ≡ base
  pub nullable_len : length nullable ≡ length g
  pub first_len : length block.first.items ≡ length g
  pub follow_len : length block.follow.items ≡ length g
  pub each : EachBit (λ i. (reached : Marks) × AreSets g (base + i) (marked nullable i) (marked block.first.items i) reached (marked block.follow.items i))

-- one block after another
abbrev pub AreBlocks : Grammar → List ℕ → List Block → Type 0
AreBlocks g nullable blocks = (k : ℕ) → At blocks k (IsBlock g nullable (128 * k))
