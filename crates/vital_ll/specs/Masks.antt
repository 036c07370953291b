-- Tables of masks, by which a grammar is seen to be predictive.
use Rattle.std.specs.Prelude.{ℕ, zero, suc, ◌+◌, ◌^◌, Bool, true, false, not, ◌&&◌, ◌||◌, ◌==◌, if◌then◌else◌, List, [], ◌∷◌, Some, None, slice_index_or}
use Rattle.std.specs.Int.Bits.{bit_and, bit_or}
use Rattle.vital_ll.specs.declared.grammar.Sym.{Sym}
use Rattle.vital_ll.specs.declared.grammar.Sym.TheVariants.{Token, Rule}
use Rattle.vital_ll.specs.Grammar.{Grammar}
use Rattle.vital_ll.specs.Sentence.{Next}
use Rattle.vital_ll.specs.Marks.{empties}

-- for each rule: whether it can be empty, a mask of the tokens that it can begin with, and one of those that can follow it
abbrev pub MaskTable : Type 0
MaskTable = List (Bool × ℕ × ℕ)

abbrev pub nullable_at : MaskTable → ℕ → Bool
nullable_at table r = (slice_index_or table r (false, 0, 0)).0

abbrev pub first_at : MaskTable → ℕ → ℕ
first_at table r = (slice_index_or table r (false, 0, 0)).1

abbrev pub follow_at : MaskTable → ℕ → ℕ
follow_at table r = (slice_index_or table r (false, 0, 0)).2

-- a token's bit in a mask: bit 0 is the end's, and bit k + 1 is that of a token of kind k
abbrev pub bit_of : Next → ℕ
bit_of None = 0
bit_of (Some k) = k + 1

-- the token of a bit
abbrev pub token_at : ℕ → Next
token_at zero = None
token_at (suc k) = Some k

-- each bit of the first mask is set in the second
abbrev pub is_within : ℕ → ℕ → Bool
is_within a b = bit_or a b == b

-- the tokens that the symbols can begin with, where those of `after` can come after them
abbrev pub mask_of : MaskTable → ℕ → List Sym → ℕ
mask_of table after [] = after
mask_of table after (Token u ∷ rest) = 2 ^ bit_of (Some u)
mask_of table after (Rule r ∷ rest) = bit_or (first_at table r) (if nullable_at table r then mask_of table after rest else 0)

-- what comes after each rule that the symbols name is in that rule's mask
abbrev pub follows_within : MaskTable → ℕ → List Sym → Bool
follows_within table after [] = true
follows_within table after (Token u ∷ rest) = follows_within table after rest
follows_within table after (Rule s ∷ rest) = is_within (mask_of table after rest) (follow_at table s) && follows_within table after rest

-- the alternatives of a rule add nothing to the masks
abbrev pub is_closed_rule : MaskTable → ℕ → List (List Sym) → Bool
is_closed_rule table r [] = true
is_closed_rule table r (c ∷ alternatives) =
    (not (empties (nullable_at table) c) || nullable_at table r) && is_within (mask_of table 0 c) (first_at table r)
    && follows_within table (follow_at table r) c && is_closed_rule table r alternatives

-- nor do those of the rules from rule r on
abbrev pub are_closed_from : MaskTable → ℕ → Grammar → Bool
are_closed_from table r [] = true
are_closed_from table r (alternatives ∷ rules) = is_closed_rule table r alternatives && are_closed_from table (r + 1) rules

-- the masks are closed under the rules, and the end follows the first rule
abbrev pub are_closed : Grammar → MaskTable → Bool
are_closed g table = is_within 1 (follow_at table 0) && are_closed_from table 0 g

-- no mask of these alternatives has a token of another or of `seen`
abbrev pub are_apart : MaskTable → ℕ → ℕ → List (List Sym) → Bool
are_apart table after seen [] = true
are_apart table after seen (c ∷ alternatives) =
    (bit_and (mask_of table after c) seen == 0) && are_apart table after (bit_or (mask_of table after c) seen) alternatives

abbrev pub decides_from : MaskTable → ℕ → Grammar → Bool
decides_from table r [] = true
decides_from table r (alternatives ∷ rules) = are_apart table (follow_at table r) 0 alternatives && decides_from table (r + 1) rules

-- the masks of the alternatives of each rule do not meet
abbrev pub decides : Grammar → MaskTable → Bool
decides g table = decides_from table 0 g

-- the mask of an alternative of rule r
abbrev pub choice_mask : MaskTable → ℕ → List Sym → ℕ
choice_mask table r chosen = mask_of table (follow_at table r) chosen
