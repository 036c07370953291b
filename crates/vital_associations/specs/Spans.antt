-- The bits that associations take, as spans of bits that stand side by side.
use Rattle.std.specs.Prelude.{◌≡◌, ⊤, ℕ, ◌+◌, Bool, true, false, not, ◌&&◌, ◌==◌, nat_le, List, [], ◌∷◌, ◌++◌, filter, Option, Some, None, if◌then◌else◌}
use Rattle.std.specs.Borrow.{Bor}
use Rattle.std.specs.List.{list_any}
use Rattle.std.specs.Option.{option_map_or}
use Rattle.std.specs.declared.cmp.Ordering.{Ordering}
use Rattle.std.specs.Ordering.{is_lt, nat_cmp, on, then_cmp}
use Rattle.vital_declarations.specs.Numbers.{Range, length_of, number}
use Rattle.vital_structure.specs.Shapes.{Part, Shape, Scalar, Vector}
use Rattle.vital_associations.specs.declared.bit.Bit.{Bit}
use Rattle.vital_associations.specs.declared.span.Span.{Span as Span'}
use Rattle.vital_associations.specs.Associations.{Association, PortMap}
use Rattle.vital_associations.specs.Formals.{shape_at}
use Rattle.vital_associations.specs.Overlaps.{greatest, indices, least}

-- ---- bits

-- A bit of a vector by one more than its index. The bit of a port that is no vector is the zeroth.
abbrev pub by_index : Option (Bor (List ℕ)) → ℕ
by_index index = option_map_or (λ i. number i.now + 1) index 0

abbrev pub rank : Bit → ℕ
rank b = by_index b.index

-- Bits by their ports, and then by their indices.
abbrev pub order : Bit → Bit → Ordering
order = then_cmp (on (λ b. b.port) nat_cmp) (on rank nat_cmp)

-- ---- spans

-- The bits of a port from the least to the greatest.
pub record Span : Type 0 where
  pub port : ℕ
  pub least : ℕ
  pub greatest : ℕ

abbrev pub lent : Span' → Span
lent s = record { port = s.port; least = by_index s.least; greatest = by_index s.greatest }

abbrev pub span_between : ℕ → ℕ → ℕ → Span
span_between port least greatest = record { port = port; least = least; greatest = greatest }

-- The bits of a range of indices, if it is not null.
abbrev pub span_of_range : ℕ → Range → Option Span
span_of_range port r = if length_of r == 0 then None else Some (span_between port (least r + 1) (greatest r + 1))

-- The bits of a part of a port, if there are some.
abbrev pub span_of : Shape → ℕ → Part → Option Span
span_of Scalar port p = Some (span_between port 0 0)
span_of (Vector r) port p = span_of_range port (indices r p)

-- Two spans have a bit in common.
abbrev pub meets : Span → Span → Bool
meets a b = (a.port == b.port) && nat_le a.least b.greatest && nat_le b.least a.greatest

-- ---- the spans that are kept, each by its first bit with the index of its last one

abbrev pub Kept : Type 0
Kept = Bit × Option (Bor (List ℕ))

abbrev pub span_in : Kept → Span
span_in k = record { port = k.0.port; least = rank k.0; greatest = by_index k.1 }

-- One of them has a bit in common with a span.
abbrev pub is_met : List Kept → Span → Bool
is_met kept s = list_any (λ k. meets (span_in k) s) kept

-- The last bit of a span.
abbrev pub end_of : Kept → Bit
end_of k = record { port = k.0.port; index = k.1 }

-- A bit does not stand behind another one.
abbrev pub is_upto : Bit → Bit → Bool
is_upto a b = not (is_lt (order b a))

-- Those that begin with a bit or before it, and the last of them.
abbrev pub up_to : List Kept → Bit → List Kept
up_to kept bit = filter (λ k. is_upto k.0 bit) kept

abbrev pub IsLastUpto : List Kept → Bit → Option Kept → Type 0
IsLastUpto kept bit None = up_to kept bit ≡ []
IsLastUpto kept bit (Some k) = (before : List Kept) × (up_to kept bit ≡ before ++ k ∷ [])

-- All of them begin behind a span.
abbrev pub AreBehind : Kept → List Kept → Type 0
AreBehind k [] = ⊤
AreBehind k (other ∷ others) = (is_upto other.0 (end_of k) ≡ false) × AreBehind k others

-- None is null, and they stand one behind another.
abbrev pub AreApart : List Kept → Type 0
AreApart [] = ⊤
AreApart (k ∷ others) = (is_upto k.0 (end_of k) ≡ true) × AreBehind k others × AreApart others

-- ---- the bits of associations

-- A part of a port takes a bit of a span.
abbrev pub takes : Span → Shape → ℕ → Part → Bool
takes s shape port p = option_map_or (λ taken. meets taken s) (span_of shape port p) false

abbrev pub takes_of : PortMap → Span → Association → Bool
takes_of m s a = takes s (shape_at m.formals a.port) a.port a.part

-- The spans that are kept are those of earlier associations.
abbrev pub HasSpans : PortMap → List Association → List Kept → Type 0
HasSpans m earlier kept = (s : Span) → is_met kept s ≡ list_any (takes_of m s) earlier
