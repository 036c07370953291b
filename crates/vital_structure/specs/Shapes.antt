-- What ports and signals of netlists are, and what names name of them (IEEE 1076-1993, 3.2.1, 6.4 and 6.5).
use Rattle.std.specs.Prelude.{ℕ, Bool, true, false, ◌&&◌, is_some, List, [], ◌∷◌, Option, Some, None}
use Rattle.std.specs.Option.{option_and_then, option_map, option_or}
use Rattle.vital_declarations.specs.Numbers.{Range, length_of, number, offset_of, range_of}
use Rattle.vital_declarations.specs.Operands.{literal_index}
use Rattle.vital_declarations.specs.Types.{DeclaredType, type_of}
use Rattle.vital_declarations.specs.Types as types
use Rattle.vital_nodes.specs.declared.decl.Iface.{Iface}
use Rattle.vital_nodes.specs.declared.expr.Direction.{Direction}
use Rattle.vital_nodes.specs.declared.expr.Direction.TheVariants.{To, Downto}
use Rattle.vital_nodes.specs.declared.expr.Suffix.{Suffix}
use Rattle.vital_nodes.specs.Bounds.{Bounds, bounds_of_range, only_range, shown}
use Rattle.vital_nodes.specs.Names.{items_of}
use Rattle.vital_structure.specs.declared.part.Part.{Part as Part'}
use Rattle.vital_structure.specs.declared.part.Part.TheVariants as borrowed_part
use Rattle.vital_structure.specs.declared.shape.Shape.{Shape as Shape'}
use Rattle.vital_structure.specs.declared.shape.Shape.TheVariants as borrowed

-- ---- shapes

-- One bit, or a vector of bits with a range of indices.
pub data Shape : Type 0 where
  Scalar : Shape
  Vector : Range → Shape

-- What is borrowed of it.
abbrev pub lent : Shape' → Shape
lent borrowed.Scalar = Scalar
lent (borrowed.Vector b) = Vector (range_of (shown b))

-- STD_LOGIC_VECTOR with one pair of literal bounds is a vector. Whatever else a type is, it counts as one bit.
abbrev pub shape_in : DeclaredType → Shape
shape_in (types.Vector r) = Vector r
shape_in _ = Scalar

abbrev pub shape_of_port : Iface → Shape
shape_of_port port = shape_in (type_of port.parts.subtype)

-- How many bits there are. A null range has none.
abbrev pub bits_of : Shape → ℕ
bits_of Scalar = 1
bits_of (Vector r) = length_of r

-- How far an index is from the left, if it is in the range. No index is in the range of one bit.
abbrev pub offset_in : Shape → ℕ → Option ℕ
offset_in Scalar n = None
offset_in (Vector r) n = offset_of r n

-- ---- parts

-- What stands behind the identifier of a port or a signal: nothing, an index, or a slice.
pub data Part : Type 0 where
  Whole : Part
  Element : ℕ → Part
  Slice : Range → Part

abbrev pub lent_part : Part' → Part
lent_part borrowed_part.Whole = Whole
lent_part (borrowed_part.Element index) = Element (number index.now)
lent_part (borrowed_part.Slice b) = Slice (range_of (shown b))

-- The literal bounds of the one range in parentheses that is all that stands behind an identifier.
abbrev pub literal_slice : List Suffix → Option Bounds
literal_slice [] = None
literal_slice (s ∷ []) = option_and_then bounds_of_range (option_and_then only_range (items_of s))
literal_slice (s ∷ t ∷ others) = None

abbrev pub element_behind : List Suffix → Option Part
element_behind suffixes = option_map (λ index. Element (number index)) (literal_index suffixes)

abbrev pub slice_behind : List Suffix → Option Part
slice_behind suffixes = option_map (λ b. Slice (range_of b)) (literal_slice suffixes)

-- The part that stands behind an identifier: nothing, one literal index, or one slice with literal bounds.
abbrev pub part_behind : List Suffix → Option Part
part_behind [] = Some Whole
part_behind (s ∷ others) = option_or (element_behind (s ∷ others)) (slice_behind (s ∷ others))

-- ---- parts of shapes

abbrev pub is_same : Direction → Direction → Bool
is_same To To = true
is_same To Downto = false
is_same Downto To = false
is_same Downto Downto = true

-- It is a vector of this direction.
abbrev pub runs : Shape → Direction → Bool
runs Scalar d = false
runs (Vector r) d = is_same r.direction d

-- A slice is in the range where its direction is that of the range, and both its bounds are in it; it may be null.
abbrev pub has_slice : Shape → Range → Bool
has_slice s r = runs s r.direction && is_some (offset_in s r.left) && is_some (offset_in s r.right)

-- A part is in the range.
abbrev pub has_part : Shape → Part → Bool
has_part s Whole = true
has_part s (Element n) = is_some (offset_in s n)
has_part s (Slice r) = has_slice s r

-- What a part is: an element is one bit, and a slice is a vector.
abbrev pub shape_of_part : Shape → Part → Shape
shape_of_part s Whole = s
shape_of_part s (Element n) = Scalar
shape_of_part s (Slice r) = Vector r

-- How far the first bit of a part is from the left.
abbrev pub first_of : Shape → Part → Option ℕ
first_of s Whole = Some 0
first_of s (Element n) = offset_in s n
first_of s (Slice r) = offset_in s r.left
