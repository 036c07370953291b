-- The bits of ports that are associated with no bit, as what stands between spans that are associated with bits.
use Rattle.std.specs.Prelude.{ℕ, ◌+◌, ◌==◌, List, [], ◌∷◌, ◌++◌, drop, take}
use Rattle.std.specs.List.{prefix_len}
use Rattle.vital_connections.specs.Objects.{Object}
use Rattle.vital_connections.specs.Runs.{bits_between}
use Rattle.vital_connections.specs.declared.span.Connected.{Connected}
use Rattle.vital_connections.specs.declared.span.Connected.TheVariants.{Open, Level, Bits}
use Rattle.vital_connections.specs.declared.span.Span.{Span}
use Rattle.vital_structure.specs.Shapes.{bits_of}

-- The bits from one on and before a span that is associated with bits.
abbrev pub gap : Connected → ℕ → Span → List (ℕ × ℕ)
gap Open from s = []
gap (Level l) from s = []
gap (Bits object first) from s = bits_between s.port from s.first

-- The bit behind it.
abbrev pub behind_gap : Connected → ℕ → Span → ℕ
behind_gap Open from s = from
behind_gap (Level l) from s = from
behind_gap (Bits object first) from s = s.end

-- The bits of a port from one on and before another one that stand in no span that is associated with bits.
abbrev pub gaps : ℕ → ℕ → List Span → ℕ → List (ℕ × ℕ)
gaps port end [] from = bits_between port from end
gaps port end (s ∷ others) from = gap s.connected from s ++ gaps port end others (behind_gap s.connected from s)

-- How many of the first spans are of a port.
abbrev pub leading : ℕ → List Span → ℕ
leading port spans = prefix_len (λ s. s.port == port) spans

-- Those of all bits of ports that have numbers from this one on.
abbrev pub all_gaps : ℕ → List Object → List Span → List (ℕ × ℕ)
all_gaps n [] spans = []
all_gaps n (o ∷ os) spans =
    gaps n (bits_of o.shape) (take (leading n spans) spans) 0 ++ all_gaps (n + 1) os (drop (leading n spans) spans)
