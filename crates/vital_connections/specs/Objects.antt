-- The ports and signals of units, and their bits (IEEE 1076-1993, 3.2.1.1 and 12.6.1).
use Rattle.std.specs.Prelude.{ℕ, ◌+◌, ◌-◌, Bool, List, map, Option, Some, None}
use Rattle.std.specs.List.{flat_map, range_with_len, slice_get}
use Rattle.std.specs.Option.{option_map_or}
use Rattle.vital_base.specs.declared.place.Place.{Place}
use Rattle.vital_logic.specs.declared.level.Level.{Level}
use Rattle.vital_nodes.specs.declared.decl.Mode.{Mode}
use Rattle.vital_nodes.specs.declared.expr.Direction.{Direction}
use Rattle.vital_nodes.specs.declared.expr.Direction.TheVariants.{To, Downto}
use Rattle.vital_structure.specs.Shapes.{Shape, Scalar, Vector, bits_of}
use Rattle.vital_structure.specs.Shapes as shapes
use Rattle.vital_structure.specs.Signals.{UnitSignal}
use Rattle.vital_connections.specs.declared.object.Object.{Object as Object'}

-- A port or a signal of a unit: its name, the place of its identifier, its mode if it is a port, what it is, whether its bits are of a
-- resolved type, and the level that its default gives each bit, if it has one.
pub record Object : Type 0 where
  pub name : List ℕ
  pub place : Place
  pub mode : Option Mode
  pub shape : Shape
  pub is_resolved : Bool
  pub default : Option Level

-- What is borrowed of it.
abbrev pub lent : Object' → Object
lent o = record {
  name = o.name.now;
  place = o.place;
  mode = o.mode;
  shape = shapes.lent o.shape;
  is_resolved = o.is_resolved;
  default = o.default;
}

-- A port or a signal of a netlist unit.
abbrev pub object_of_signal : UnitSignal → Object
object_of_signal s = record {
  name = s.identifier.name;
  place = s.identifier.place;
  mode = s.mode;
  shape = s.shape;
  is_resolved = s.is_resolved;
  default = s.default;
}

-- What the port or signal of a number is. A number past them counts as one bit.
abbrev pub shape_at : List Object → ℕ → Shape
shape_at os n = option_map_or (λ o. o.shape) (slice_get os n) Scalar

-- ---- bits

-- All bits of a port or signal, each by the number of this and how far it is from the left.
abbrev pub whole_bits : (ℕ × Object) → List (ℕ × ℕ)
whole_bits o = map (λ offset. (o.0, offset)) (range_with_len 0 (bits_of o.1.shape))

-- Those of ports or signals with their numbers, by these and from left to right.
abbrev pub bits_of_all : List (ℕ × Object) → List (ℕ × ℕ)
bits_of_all os = flat_map whole_bits os

-- ---- indices

abbrev pub index_from : Direction → ℕ → ℕ → ℕ
index_from To left offset = left + offset
index_from Downto left offset = left - offset

-- The index of a bit at a distance from the left of a vector (3.2.1.1). What is one bit has none.
abbrev pub index_at : Shape → ℕ → Option ℕ
index_at Scalar offset = None
index_at (Vector r) offset = Some (index_from r.direction r.left offset)
