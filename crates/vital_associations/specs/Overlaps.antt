-- Parts of ports that have a bit in common.
use Rattle.std.specs.Prelude.{ℕ, Bool, true, ◌&&◌, nat_le}
use Rattle.vital_declarations.specs.Numbers.{Range}
use Rattle.vital_nodes.specs.declared.expr.Direction.{Direction}
use Rattle.vital_nodes.specs.declared.expr.Direction.TheVariants.{To, Downto}
use Rattle.vital_structure.specs.Shapes.{Part, Whole, Element, Slice, Shape, Scalar, Vector}

abbrev pub lower : Direction → ℕ → ℕ → ℕ
lower To left right = left
lower Downto left right = right

-- The numbers of a range are those from the least to the greatest. It is null where the greatest is less than the least.
abbrev pub least : Range → ℕ
least r = lower r.direction r.left r.right

abbrev pub greatest : Range → ℕ
greatest r = lower r.direction r.right r.left

-- The range of the indices of a part of a vector with this range.
abbrev pub indices : Range → Part → Range
indices r Whole = r
indices r (Element n) = record { left = n; direction = r.direction; right = n }
indices r (Slice s) = s

-- Two ranges have a number in common: each least one is at most each greatest one.
abbrev pub meet : Range → Range → Bool
meet a b = nat_le (least a) (greatest a) && nat_le (least b) (greatest a) && nat_le (least a) (greatest b) && nat_le (least b) (greatest b)

-- Two parts of a port have a bit in common. One bit has no other part than itself.
abbrev pub overlap : Shape → Part → Part → Bool
overlap Scalar a b = true
overlap (Vector r) a b = meet (indices r a) (indices r b)
