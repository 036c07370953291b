-- Natural numbers that literals write, and ranges of them (IEEE 1076-1993, 3.1 and 13.4.1).
use Rattle.std.specs.Prelude.{ℕ, ◌+◌, ◌-◌, ◌^◌, ◌&&◌, nat_le, nat_lt, List, filter, Option, Some, None, if◌then◌else◌}
use Rattle.std.specs.Char.{is_ascii_digit}
use Rattle.std.specs.Str.Parse.{digits_value}
use Rattle.vital_nodes.specs.declared.expr.Direction.{Direction}
use Rattle.vital_nodes.specs.declared.expr.Direction.TheVariants.{To, Downto}
use Rattle.vital_nodes.specs.Bounds.{Bounds}

-- The natural number that an integer literal writes, however long it is. Underscores count for nothing.
abbrev pub number : List ℕ → ℕ
number literal = digits_value 10 (filter is_ascii_digit literal)

-- A range of natural numbers: its left bound, its direction and its right bound.
pub record Range : Type 0 where
  pub left : ℕ
  pub direction : Direction
  pub right : ℕ

-- The range between literal bounds.
abbrev pub range_of : Bounds → Range
range_of b = record { left = number b.0; direction = b.1; right = number b.2 }

-- How many numbers there are between two bounds, with both; there is none where they stand the other way round.
abbrev pub length_between : Direction → ℕ → ℕ → ℕ
length_between To left right = (right + 1) - left
length_between Downto left right = (left + 1) - right

abbrev pub length_of : Range → ℕ
length_of r = length_between r.direction r.left r.right

-- How far a number is from the left bound, if it is in the range.
abbrev pub offset_between : Direction → ℕ → ℕ → ℕ → Option ℕ
offset_between To left right n = if nat_le left n && nat_le n right then Some (n - left) else None
offset_between Downto left right n = if nat_le n left && nat_le right n then Some (left - n) else None

abbrev pub offset_of : Range → ℕ → Option ℕ
offset_of r n = offset_between r.direction r.left r.right n

-- A number, if a machine word of 64 bits holds it.
abbrev pub in_word : ℕ → Option ℕ
in_word n = if nat_lt n (2 ^ 64) then Some n else None
