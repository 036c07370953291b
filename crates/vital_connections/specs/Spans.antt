-- Bits of ports that stand side by side, with what they are associated with.
use Rattle.std.specs.Prelude.{◌≡◌, ◌<◌, ⊤, ℕ, ◌+◌, ◌-◌, Bool, true, ◌&&◌, ◌||◌, ◌==◌, nat_le, nat_lt, List, [], ◌∷◌, Option, Some, None, if◌then◌else◌}
use Rattle.std.specs.List.{filter_map}
use Rattle.std.specs.Option.{option_and_then, option_map, option_or}
use Rattle.std.specs.Ordering.{nat_cmp, on, then_cmp}
use Rattle.std.specs.declared.cmp.Ordering.{Ordering}
use Rattle.vital_associations.specs.Actuals.{Actual}
use Rattle.vital_associations.specs.Actuals as actuals
use Rattle.vital_associations.specs.Associations.{Association}
use Rattle.vital_connections.specs.Connections.{Connection, Shapes}
use Rattle.vital_connections.specs.Connections as connections
use Rattle.vital_connections.specs.declared.span.Connected.{Connected}
use Rattle.vital_connections.specs.declared.span.Connected.TheVariants as connected
use Rattle.vital_connections.specs.declared.span.Span.{Span}
use Rattle.vital_structure.specs.Shapes.{Part, Shape, bits_of, first_of, shape_of_part}

-- What the first bit of a span is associated with.
abbrev pub seen : Connected → Connection
seen connected.Open = connections.Open
seen (connected.Level l) = connections.Level l
seen (connected.Bits object first) = connections.Bit object first

-- What a bit so far from the first one of a span is associated with.
abbrev pub behind : ℕ → Connection → Connection
behind n connections.Open = connections.Open
behind n (connections.Level l) = connections.Level l
behind n (connections.Bit object first) = connections.Bit object (first + n)

abbrev pub has_bit : Span → ℕ → ℕ → Bool
has_bit s port bit = (s.port == port) && nat_le s.first bit && nat_lt bit s.end

-- What a span gives a bit of a port, if the bit is in it.
abbrev pub given_by : ℕ → ℕ → Span → Option Connection
given_by port bit s = if has_bit s port bit then Some (behind (bit - s.first) (seen s.connected)) else None

-- What spans give a bit of a port.
abbrev pub given : List Span → ℕ → ℕ → Option Connection
given [] port bit = None
given (s ∷ others) port bit = option_or (given_by port bit s) (given others port bit)

-- ---- the span of an association

abbrev pub bits_at : Shapes → ℕ → Part → Option Connected
bits_at signals number p = option_map (λ first. connected.Bits number first) (first_of (signals number) p)

-- What an actual gives, if it begins in its range.
abbrev pub connected_by : Shapes → Actual → Option Connected
connected_by signals actuals.Open = Some connected.Open
connected_by signals (actuals.Literal l) = Some (connected.Level l)
connected_by signals (actuals.Signal number p) = bits_at signals number p

-- The first bit of a part, and the one behind its last, if it begins in its range.
abbrev pub ends_of : Shape → Part → Option (ℕ × ℕ)
ends_of s p = option_map (λ first. (first, first + bits_of (shape_of_part s p))) (first_of s p)

abbrev pub span_between : ℕ → (ℕ × ℕ) → Connected → Option Span
span_between port ends c =
    if nat_lt ends.0 ends.1 then Some (record { port = port; first = ends.0; end = ends.1; connected = c }) else None

abbrev pub span_with : Shapes → Association → (ℕ × ℕ) → Option Span
span_with signals a ends = option_and_then (span_between a.port ends) (connected_by signals a.actual)

-- The bits that an association associates, if there are some.
abbrev pub span_of : Shapes → Shapes → Association → Option Span
span_of ports signals a = option_and_then (span_with signals a) (ends_of (ports a.port) a.part)

abbrev pub spans_of : Shapes → Shapes → List Association → List Span
spans_of ports signals associations = filter_map (span_of ports signals) associations

-- ---- order

-- By ports, and then by their first bits.
abbrev pub order : Span → Span → Ordering
order = then_cmp (on (λ s. s.port) nat_cmp) (on (λ s. s.first) nat_cmp)

-- A span does not begin behind a bit of a port.
abbrev pub begins_upto : ℕ → ℕ → Span → Bool
begins_upto port bit s = nat_lt s.port port || ((s.port == port) && nat_le s.first bit)

-- The last span that does not.
abbrev pub last_upto : ℕ → ℕ → List Span → Option Span
last_upto port bit [] = None
last_upto port bit (s ∷ others) = option_or (last_upto port bit others) (if begins_upto port bit s then Some s else None)

-- A span ends before another one begins.
abbrev pub ends_before : Span → Span → Bool
ends_before a b = nat_lt a.port b.port || ((a.port == b.port) && nat_le a.end b.first)

abbrev pub AreBehind : Span → List Span → Type 0
AreBehind a [] = ⊤
AreBehind a (b ∷ others) = (ends_before a b ≡ true) × AreBehind a others

-- Each has a bit, and ends before the next one begins.
abbrev pub AreSorted : List Span → Type 0
AreSorted [] = ⊤
AreSorted (a ∷ others) = (a.first < a.end) × AreBehind a others × AreSorted others

-- A span begins with a bit of its port.
abbrev pub BeginsInside : Shapes → Span → Type 0
BeginsInside ports s = s.first < bits_of (ports s.port)

-- ---- what is kept

-- Spans of the bits that are associated, and the bits that are associated with no bit.
pub record Kept : Type 0 where
  pub spans : List Span
  pub own : List (ℕ × ℕ)
