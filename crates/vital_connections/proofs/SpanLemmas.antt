-- What the spans of associations give bits of ports.
use Rattle.std.proofs.Common.{◌≡◌, ℕ, ◌+◌, ◌-◌, ◌<◌, true, false, List, [], ◌∷◌, refl, sym, ap, subst, ◌∙◌, arith}
use Rattle.std.specs.Prelude.{Bool, cond, ◌&&◌, ◌==◌, nat_le, nat_lt, All, Option, Some, None}
use Rattle.std.specs.List.{cons_option}
use Rattle.std.specs.Option.{option_and_then, option_map, option_or}
use Rattle.std.proofs.lemmas.Bool.Decides.{nat_tests}
use Rattle.std.proofs.lemmas.List.Elements.{All-cons}
use Rattle.vital_associations.specs.Actuals.{Actual}
use Rattle.vital_associations.specs.Actuals as actuals
use Rattle.vital_associations.specs.Associations.{Association}
use Rattle.vital_connections.specs.Connections.{Connection, Shapes, bit_of, connection, connection_by, place_in, within}
use Rattle.vital_connections.specs.Connections as connections
use Rattle.vital_connections.specs.Spans.{BeginsInside, behind, connected_by, given, given_by, seen, span_between, span_of, span_with, spans_of}
use Rattle.vital_connections.specs.declared.span.Connected.{Connected}
use Rattle.vital_connections.specs.declared.span.Connected.TheVariants as connected
use Rattle.vital_connections.specs.declared.span.Span.{Span}
use Rattle.vital_declarations.specs.Numbers.{length_between, offset_between}
use Rattle.vital_nodes.specs.declared.expr.Direction.{Direction}
use Rattle.vital_nodes.specs.declared.expr.Direction.TheVariants.{To, Downto}
use Rattle.vital_structure.specs.Shapes.{Part, Whole, Element, Slice, Shape, Scalar, Vector, bits_of, first_of, offset_in, shape_of_part}

-- ---- one span

inside-is : (first n bit : ℕ) → (nat_le first bit && nat_lt (bit - first) n) ≡ (nat_lt first (first + n) && nat_le first bit && nat_lt bit (first + n))
inside-is first n bit = grind (arith, nat_tests)

pushed : (g : Span → Option Connection) (s : Span) (b : Bool) → option_and_then g (cond b (Some s) None) ≡ cond b (g s) None
pushed g s true = refl
pushed g s false = refl

by-tests : (port some upto inside : Bool) (d : ℕ) (f : ℕ → Connection) → cond some (cond (port && upto && inside) (Some (f d)) None) None ≡ cond port (option_map f (cond (some && upto && inside) (Some d) None)) None
by-tests true true true true d f = refl
by-tests true true true false d f = refl
by-tests true true false inside d f = refl
by-tests true false upto inside d f = refl
by-tests false true upto inside d f = refl
by-tests false false upto inside d f = refl

span-gives : (p first n port bit : ℕ) (c : Connected) → option_and_then (given_by port bit) (span_between p (first, first + n) c) ≡ cond (p == port) (option_map (λ d. behind d (seen c)) (within bit n first)) None
span-gives p first n port bit c =
    pushed (given_by port bit) (record { port = p; first = first; end = first + n; connected = c }) (nat_lt first (first + n))
    ∙ by-tests (p == port) (nat_lt first (first + n)) (nat_le first bit) (nat_lt bit (first + n)) (bit - first) (λ d. behind d (seen c))
    ∙ ap (λ b. cond (p == port) (option_map (λ d. behind d (seen c)) (cond b (Some (bit - first)) None)) None) (sym (inside-is first n bit))

-- ---- the span of an association

signal-gives : (number d : ℕ) (o : Option ℕ) → option_map (λ place. connections.Bit number place) (option_map (λ first. first + d) o) ≡ option_map (λ c. behind d (seen c)) (option_map (λ first. connected.Bits number first) o)
signal-gives number d None = refl
signal-gives number d (Some first) = refl

actual-gives : (signals : Shapes) (a : Actual) (d : ℕ) → bit_of signals a d ≡ option_map (λ c. behind d (seen c)) (connected_by signals a)
actual-gives signals actuals.Open d = refl
actual-gives signals (actuals.Literal l) d = refl
actual-gives signals (actuals.Signal number p) d = signal-gives number d (first_of (signals number) p)

either-way : (b : Bool) (o : Option Connection) → o ≡ cond b o o
either-way true o = refl
either-way false o = refl

none-then : (g : ℕ → Option Connection) (w : Option ℕ) → ((d : ℕ) → g d ≡ None) → option_and_then g w ≡ None
none-then g None h = refl
none-then g (Some d) h = h d

some-then : (g : ℕ → Option Connection) (f : ℕ → Connection) (w : Option ℕ) → ((d : ℕ) → g d ≡ Some (f d)) → option_map f w ≡ option_and_then g w
some-then g f None h = refl
some-then g f (Some d) h = sym (h d)

with-actual : (p first n port bit : ℕ) (g : ℕ → Option Connection) (o : Option Connected) → ((d : ℕ) → g d ≡ option_map (λ c. behind d (seen c)) o) → option_and_then (given_by port bit) (option_and_then (span_between p (first, first + n)) o) ≡ cond (p == port) (option_and_then g (within bit n first)) None
with-actual p first n port bit g None h = either-way (p == port) None ∙ ap (λ o. cond (p == port) o None) (sym (none-then g (within bit n first) h))
with-actual p first n port bit g (Some c) h =
    span-gives p first n port bit c
    ∙ ap (λ o. cond (p == port) o None) (some-then g (λ d. behind d (seen c)) (within bit n first) h)

with-first : (signals : Shapes) (a : Association) (n port bit : ℕ) (o : Option ℕ) → option_and_then (given_by port bit) (option_and_then (span_with signals a) (option_map (λ first. (first, first + n)) o)) ≡ cond (a.port == port) (option_and_then (bit_of signals a.actual) (option_and_then (within bit n) o)) None
with-first signals a n port bit None = either-way (a.port == port) None
with-first signals a n port bit (Some first) =
    with-actual a.port first n port bit (bit_of signals a.actual) (connected_by signals a.actual) (actual-gives signals a.actual)

same-number : (a b : ℕ) → (a == b) ≡ true → a ≡ b
same-number a b h = grind (arith, nat_tests)

at-port : (f : ℕ → Option Connection) (p port : ℕ) (b : Bool) → (p == port) ≡ b → cond b (f p) None ≡ cond b (f port) None
at-port f p port true is = ap f (same-number p port is)
at-port f p port false is = refl

-- the span of an association gives a bit what the association does
pub span_gives : (ports signals : Shapes) (port bit : ℕ) (a : Association) → option_and_then (given_by port bit) (span_of ports signals a) ≡ connection_by ports signals port bit a
span_gives ports signals port bit a =
    with-first signals a (bits_of (shape_of_part (ports a.port) a.part)) port bit (first_of (ports a.port) a.part)
    ∙ at-port (λ p. option_and_then (bit_of signals a.actual) (place_in (ports p) a.part bit)) a.port port (a.port == port) refl

given-more : (port bit : ℕ) (o : Option Span) (others : List Span) → given (cons_option o others) port bit ≡ option_or (option_and_then (given_by port bit) o) (given others port bit)
given-more port bit None others = refl
given-more port bit (Some s) others = refl

-- and the spans of all associations what these do
pub given_spans : (ports signals : Shapes) (port bit : ℕ) (made : List Association) → given (spans_of ports signals made) port bit ≡ connection ports signals port bit made
given_spans ports signals port bit [] = refl
given_spans ports signals port bit (a ∷ others) =
    given-more port bit (span_of ports signals a) (spans_of ports signals others)
    ∙ ap (λ o. option_or o (given (spans_of ports signals others) port bit)) (span_gives ports signals port bit a)
    ∙ ap (option_or (connection_by ports signals port bit a)) (given_spans ports signals port bit others)

-- ---- where spans begin

within-up : (left right n first : ℕ) → (nat_le left n && nat_le n right) ≡ true → n - left ≡ first → first < (right + 1) - left
within-up left right n first is at = grind (arith, nat_tests)

up-inside : (left right n first : ℕ) (b : Bool) → (nat_le left n && nat_le n right) ≡ b → cond b (Some (n - left)) None ≡ Some first → first < (right + 1) - left
up-inside left right n first true is e = let at : n - left ≡ first = cc in within-up left right n first is at
up-inside left right n first false is e = absurd (cc)

within-down : (left right n first : ℕ) → (nat_le n left && nat_le right n) ≡ true → left - n ≡ first → first < (left + 1) - right
within-down left right n first is at = grind (arith, nat_tests)

down-inside : (left right n first : ℕ) (b : Bool) → (nat_le n left && nat_le right n) ≡ b → cond b (Some (left - n)) None ≡ Some first → first < (left + 1) - right
down-inside left right n first true is e = let at : left - n ≡ first = cc in within-down left right n first is at
down-inside left right n first false is e = absurd (cc)

offset-inside : (d : Direction) (left right n first : ℕ) → offset_between d left right n ≡ Some first → first < length_between d left right
offset-inside To left right n first e = up-inside left right n first (nat_le left n && nat_le n right) refl e
offset-inside Downto left right n first e = down-inside left right n first (nat_le n left && nat_le right n) refl e

index-inside : (s : Shape) (n first : ℕ) → offset_in s n ≡ Some first → first < bits_of s
index-inside Scalar n first e = absurd (cc)
index-inside (Vector r) n first e = offset-inside r.direction r.left r.right n first e

part-inside : (s : Shape) (p : Part) (first : ℕ) → first_of s p ≡ Some first → first < first + bits_of (shape_of_part s p) → first < bits_of s
part-inside s Whole first e some = let at : 0 ≡ first = cc in omega (arith, at, some)
part-inside s (Element n) first e some = index-inside s n first e
part-inside s (Slice r) first e some = index-inside s r.left first e

-- a span has a bit, and begins with a bit of its port
abbrev pub IsGood : Shapes → Span → Type 0
IsGood ports s = (s.first < s.end) × BeginsInside ports s

abbrev span-at : ℕ → ℕ → ℕ → Connected → Span
span-at port first end c = record { port = port; first = first; end = end; connected = c }

less-is : (a b : ℕ) → nat_lt a b ≡ true → a < b
less-is a b h = grind (arith, nat_tests)

between-good : (ports : Shapes) (p first n : ℕ) (c : Connected) (s : Span) (b : Bool) → nat_lt first (first + n) ≡ b → (first < first + n → first < bits_of (ports p)) → cond b (Some (span-at p first (first + n) c)) None ≡ Some s → IsGood ports s
between-good ports p first n c s true is inside e =
    let same : span-at p first (first + n) c ≡ s = cc in
    let less = less-is first (first + n) is in
    subst (IsGood ports) same (less, inside less)
between-good ports p first n c s false is inside e = absurd (cc)

actual-good : (ports : Shapes) (p first n : ℕ) (s : Span) (o : Option Connected) → (first < first + n → first < bits_of (ports p)) → option_and_then (span_between p (first, first + n)) o ≡ Some s → IsGood ports s
actual-good ports p first n s None inside e = absurd (cc)
actual-good ports p first n s (Some c) inside e = between-good ports p first n c s (nat_lt first (first + n)) refl inside e

first-good : (ports signals : Shapes) (a : Association) (s : Span) (o : Option ℕ) → first_of (ports a.port) a.part ≡ o → option_and_then (span_with signals a) (option_map (λ first. (first, first + bits_of (shape_of_part (ports a.port) a.part))) o) ≡ Some s → IsGood ports s
first-good ports signals a s None is e = absurd (cc)
first-good ports signals a s (Some first) is e =
    actual-good ports a.port first (bits_of (shape_of_part (ports a.port) a.part)) s (connected_by signals a.actual) (part-inside (ports a.port) a.part first is) e

cons-good : (ports : Shapes) (o : Option Span) (others : List Span) → ((s : Span) → o ≡ Some s → IsGood ports s) → All (IsGood ports) others → All (IsGood ports) (cons_option o others)
cons-good ports None others h all = all
cons-good ports (Some s) others h all = All-cons (IsGood ports) s others (h s refl) all

-- and so have and do all spans of associations
pub good_spans : (ports signals : Shapes) (made : List Association) → All (IsGood ports) (spans_of ports signals made)
good_spans ports signals [] k d lt = absurd (omega (arith, lt))
good_spans ports signals (a ∷ others) k d lt =
    cons-good ports (span_of ports signals a) (spans_of ports signals others) (λ s e. first-good ports signals a s (first_of (ports a.port) a.part) refl e) (good_spans ports signals others) k d lt
