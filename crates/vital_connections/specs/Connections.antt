-- What the bits of ports are associated with, matched from left to right (IEEE 1076-1993, 1.1.1.2 and 12.6.1).
use Rattle.std.specs.Prelude.{◌≡◌, ⊤, ℕ, ◌+◌, ◌-◌, Bool, true, false, not, is_some, ◌&&◌, ◌==◌, nat_le, nat_lt, List, [], ◌∷◌, filter, Option, Some, None, if◌then◌else◌}
use Rattle.std.specs.List.{enumerate_from, list_any}
use Rattle.std.specs.Option.{option_and_then, option_map, option_map_or, option_or}
use Rattle.vital_associations.specs.Actuals.{Actual}
use Rattle.vital_associations.specs.Actuals as actuals
use Rattle.vital_associations.specs.Associations.{Association}
use Rattle.vital_connections.specs.Objects.{Object, bits_of_all}
use Rattle.vital_logic.specs.declared.level.Level.{Level as Level'}
use Rattle.vital_structure.specs.Shapes.{Part, Shape, bits_of, first_of, shape_of_part}

-- What a bit of a port is associated with: nothing, by `open`; a level; or the bit of the port or signal of a number, of the unit in which
-- the instance stands, that is so far from the left.
pub data Connection : Type 0 where
  Open : Connection
  Level : Level' → Connection
  Bit : ℕ → ℕ → Connection

-- What the ports or signals of numbers are.
abbrev pub Shapes : Type 0
Shapes = ℕ → Shape

-- How far the bit at a distance from the left is from the first bit of a part, if it is in the part.
abbrev pub within : ℕ → ℕ → ℕ → Option ℕ
within bit length first = if nat_le first bit && nat_lt (bit - first) length then Some (bit - first) else None

abbrev pub place_in : Shape → Part → ℕ → Option ℕ
place_in s p bit = option_and_then (within bit (bits_of (shape_of_part s p))) (first_of s p)

-- How far the bit at a distance from the left of a part is from the left of the whole.
abbrev pub place_of : Shape → Part → ℕ → Option ℕ
place_of s p distance = option_map (λ first. first + distance) (first_of s p)

-- The bit of an actual at a distance from its left.
abbrev pub bit_of : Shapes → Actual → ℕ → Option Connection
bit_of signals actuals.Open n = Some Open
bit_of signals (actuals.Literal level) n = Some (Level level)
bit_of signals (actuals.Signal number p) n = option_map (λ place. Bit number place) (place_of (signals number) p n)

-- What an association gives a bit of a port, if the bit is in its part.
abbrev pub connection_by : Shapes → Shapes → ℕ → ℕ → Association → Option Connection
connection_by ports signals port bit a =
    if a.port == port then option_and_then (bit_of signals a.actual) (place_in (ports port) a.part bit) else None

-- What associations give a bit of a port, if it is associated: the first of them that has it. No two of them have a bit in common.
abbrev pub connection : Shapes → Shapes → ℕ → ℕ → List Association → Option Connection
connection ports signals port bit [] = None
connection ports signals port bit (a ∷ others) =
    option_or (connection_by ports signals port bit a) (connection ports signals port bit others)

-- ---- associations that have no bit in common

abbrev pub has_place : Shapes → Association → ℕ → ℕ → Bool
has_place ports a port bit = (a.port == port) && is_some (place_in (ports port) a.part bit)

abbrev pub IsApartFrom : Shapes → Association → List Association → Type 0
IsApartFrom ports a others =
    (port bit : ℕ) → has_place ports a port bit ≡ true → list_any (λ b. has_place ports b port bit) others ≡ false

-- No two associations have a bit in common.
abbrev pub AreApart : Shapes → List Association → Type 0
AreApart ports [] = ⊤
AreApart ports (a ∷ others) = IsApartFrom ports a others × AreApart ports others

-- ---- bits that are signals of their own

abbrev pub is_bit : Connection → Bool
is_bit Open = false
is_bit (Level l) = false
is_bit (Bit object offset) = true

-- A bit of a port is associated with no bit of the unit in which the instance stands.
abbrev pub is_own : Option Connection → Bool
is_own c = not (option_map_or is_bit c false)

-- The bits of ports that are associated with no bit, by ports and from left to right, where bits are associated with this.
abbrev pub own_bits : (ℕ → ℕ → Option Connection) → List Object → List (ℕ × ℕ)
own_bits connected ports = filter (λ b. is_own (connected b.0 b.1)) (bits_of_all (enumerate_from 0 ports))
