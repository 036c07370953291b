-- Parts of ports in their ranges that do not overlap have no bit in common.
use Rattle.std.proofs.Common.{◌≡◌, ℕ, ◌+◌, ◌-◌, ◌<◌, ◌≤◌, true, false, List, [], ◌∷◌, refl, sym, ap, ◌∙◌, arith}
use Rattle.std.specs.Prelude.{Bool, cond, is_some, ◌&&◌, ◌||◌, ◌==◌, nat_le, nat_lt, ⊤, Some, None}
use Rattle.std.specs.List.{list_any}
use Rattle.std.specs.Option.{option_and_then}
use Rattle.std.proofs.lemmas.Bool.Decides.{nat_tests}
use Rattle.vital_associations.specs.Associations.{Association, is_taken, takes}
use Rattle.vital_associations.specs.Overlaps.{greatest, indices, least, overlap}
use Rattle.vital_connections.specs.Connections.{AreApart, Shapes, has_place, place_in, within}
use Rattle.vital_connections.specs.Objects.{index_from}
use Rattle.vital_declarations.specs.Numbers.{Range}
use Rattle.vital_nodes.specs.declared.expr.Direction.{Direction}
use Rattle.vital_nodes.specs.declared.expr.Direction.TheVariants.{To, Downto}
use Rattle.vital_structure.specs.Shapes.{Part, Whole, Element, Slice, Shape, Scalar, Vector, has_part}

-- ---- the index of a bit that is in a part

within-says : (bit len first : ℕ) → is_some (within bit len first) ≡ true → (first ≤ bit) × (bit < first + len)
within-says bit len first h = by-test (nat_le first bit && nat_lt (bit - first) len) refl h
  where
    numbers : (nat_le first bit && nat_lt (bit - first) len) ≡ true → (first ≤ bit) × (bit < first + len)
    numbers h = (grind (arith, nat_tests), grind (arith, nat_tests))

    by-test : (b : Bool) → (nat_le first bit && nat_lt (bit - first) len) ≡ b → is_some (cond b (Some (bit - first)) None) ≡ true → (first ≤ bit) × (bit < first + len)
    by-test true is h = numbers is
    by-test false is h = absurd (cc)

offset-says : (bit len first : ℕ) (t : Bool) → is_some (option_and_then (within bit len) (cond t (Some first) None)) ≡ true → (t ≡ true) × (first ≤ bit) × (bit < first + len)
offset-says bit len first true h = let both = within-says bit len first h in (refl, both.0, both.1)
offset-says bit len first false h = absurd (cc)

between : (a b n : ℕ) → (nat_le a n && nat_le n b) ≡ true → (a ≤ n) × (n ≤ b)
between a b n h = (grind (arith, nat_tests), grind (arith, nat_tests))

abbrev range : ℕ → Direction → ℕ → Range
range left d right = record { left = left; direction = d; right = right }

abbrev IsInside : Range → Part → ℕ → Type 0
IsInside r p x = (least (indices r p) ≤ x) × (x ≤ greatest (indices r p))

and-first : (a b : Bool) → (a && b) ≡ true → a ≡ true
and-first true b h = refl
and-first false b h = absurd (cc)

up-inside : (left right : ℕ) (p : Part) (bit : ℕ) → has_part (Vector (range left To right)) p ≡ true → is_some (place_in (Vector (range left To right)) p bit) ≡ true → IsInside (range left To right) p (left + bit)
up-inside left right Whole bit has h = let both = within-says bit ((right + 1) - left) 0 h in (omega arith, omega (arith, both.1))
up-inside left right (Element n) bit has h =
    let says = offset-says bit 1 (n - left) (nat_le left n && nat_le n right) h in
    let in-range = between left right n says.0 in
    (omega (arith, in-range.0, says.1, says.2), omega (arith, in-range.0, says.1, says.2))
up-inside left right (Slice s) bit has h = by-direction s.direction refl has h
  where
    by-direction : (d : Direction) → s.direction ≡ d → has_part (Vector (range left To right)) (Slice (range s.left d s.right)) ≡ true → is_some (place_in (Vector (range left To right)) (Slice (range s.left d s.right)) bit) ≡ true → IsInside (range left To right) (Slice (range s.left d s.right)) (left + bit)
    by-direction To is has h =
        let says = offset-says bit ((s.right + 1) - s.left) (s.left - left) (nat_le left s.left && nat_le s.left right) h in
        let in-range = between left right s.left says.0 in
        (omega (arith, in-range.0, says.1, says.2), omega (arith, in-range.0, says.1, says.2))
    by-direction Downto is has h = absurd (cc)

down-first : (n left right : ℕ) → (nat_le n left && nat_le right n) ≡ true → n ≤ left
down-first n left right h = grind (arith, nat_tests)

down-inside : (left right : ℕ) (p : Part) (bit : ℕ) → has_part (Vector (range left Downto right)) p ≡ true → is_some (place_in (Vector (range left Downto right)) p bit) ≡ true → IsInside (range left Downto right) p (left - bit)
down-inside left right Whole bit has h = let both = within-says bit ((left + 1) - right) 0 h in (omega (arith, both.1), omega arith)
down-inside left right (Element n) bit has h =
    let says = offset-says bit 1 (left - n) (nat_le n left && nat_le right n) h in
    let below = down-first n left right says.0 in
    (omega (arith, below, says.1, says.2), omega (arith, below, says.1, says.2))
down-inside left right (Slice s) bit has h = by-direction s.direction refl has h
  where
    by-direction : (d : Direction) → s.direction ≡ d → has_part (Vector (range left Downto right)) (Slice (range s.left d s.right)) ≡ true → is_some (place_in (Vector (range left Downto right)) (Slice (range s.left d s.right)) bit) ≡ true → IsInside (range left Downto right) (Slice (range s.left d s.right)) (left - bit)
    by-direction To is has h = absurd (cc)
    by-direction Downto is has h =
        let says = offset-says bit ((s.left + 1) - s.right) (left - s.left) (nat_le s.left left && nat_le right s.left) h in
        let below = down-first s.left left right says.0 in
        (omega (arith, below, says.1, says.2), omega (arith, below, says.1, says.2))

inside : (d : Direction) (left right : ℕ) (p : Part) (bit : ℕ) → has_part (Vector (range left d right)) p ≡ true → is_some (place_in (Vector (range left d right)) p bit) ≡ true → IsInside (range left d right) p (index_from d left bit)
inside To left right p bit has h = up-inside left right p bit has h
inside Downto left right p bit has h = down-inside left right p bit has h

-- ---- parts

met : (la ga lb gb x : ℕ) → la ≤ x → x ≤ ga → lb ≤ x → x ≤ gb → (nat_le la ga && nat_le lb ga && nat_le la gb && nat_le lb gb) ≡ true
met la ga lb gb x h h' k k' = grind (arith, nat_tests)

never : (b : Bool) → b ≡ true → b ≡ false → ⊥
never true h h' = cc
never false h h' = cc

no-common : (s : Shape) (p q : Part) (bit : ℕ) → has_part s p ≡ true → has_part s q ≡ true → overlap s p q ≡ false → is_some (place_in s p bit) ≡ true → is_some (place_in s q bit) ≡ true → ⊥
no-common Scalar p q bit hp hq apart inp inq = cc
no-common (Vector r) p q bit hp hq apart inp inq =
    let a = inside r.direction r.left r.right p bit hp inp in
    let b = inside r.direction r.left r.right q bit hq inq in
    never (overlap (Vector r) p q) (met (least (indices r p)) (greatest (indices r p)) (least (indices r q)) (greatest (indices r q)) (index_from r.direction r.left bit) a.0 a.1 b.0 b.1) apart

-- ---- associations

-- each part is in the range of its port, and overlaps no other one of this
abbrev pub ArePartsApart : Shapes → List Association → Type 0
ArePartsApart ports [] = ⊤
ArePartsApart ports (a ∷ others) =
    (has_part (ports a.port) a.part ≡ true) × (is_taken (ports a.port) a.port a.part others ≡ false) × ArePartsApart ports others

both-true : (a b : Bool) → (a && b) ≡ true → (a ≡ true) × (b ≡ true)
both-true true b h = (refl, h)
both-true false b h = absurd (cc)

same-port : (a b : ℕ) → (a == b) ≡ true → a ≡ b
same-port a b h = grind (arith, nat_tests)

ports-same : (a b : ℕ) → a ≡ b → (a == b) ≡ true
ports-same a b h = grind (arith, nat_tests)

both-false : (a b : Bool) → (a || b) ≡ false → (a ≡ false) × (b ≡ false)
both-false true b h = absurd (cc)
both-false false b h = (refl, h)

other-free : (ports : Shapes) (a b : Association) (port bit : ℕ) → has_part (ports a.port) a.part ≡ true → has_part (ports b.port) b.part ≡ true → takes (ports a.port) a.port a.part b ≡ false → has_place ports a port bit ≡ true → has_place ports b port bit ≡ true → ⊥
other-free ports a b port bit ha hb free pa pb =
    let at-a = both-true (a.port == port) (is_some (place_in (ports port) a.part bit)) pa in
    let at-b = both-true (b.port == port) (is_some (place_in (ports port) b.part bit)) pb in
    let a-is = same-port a.port port at-a.0 in
    let b-is = same-port b.port port at-b.0 in
    let same = ports-same b.port a.port (b-is ∙ sym a-is) in
    let apart : overlap (ports port) b.part a.part ≡ false = ap (λ n. overlap (ports n) b.part a.part) (sym a-is) ∙ ap (λ t. t && overlap (ports a.port) b.part a.part) (sym same) ∙ free in
    no-common (ports port) b.part a.part bit
    (ap (λ n. has_part (ports n) b.part) (sym b-is) ∙ hb)
    (ap (λ n. has_part (ports n) a.part) (sym a-is) ∙ ha)
    apart at-b.1 at-a.1

apart-from : (ports : Shapes) (a : Association) (others : List Association) (port bit : ℕ) → has_part (ports a.port) a.part ≡ true → is_taken (ports a.port) a.port a.part others ≡ false → ArePartsApart ports others → has_place ports a port bit ≡ true → list_any (λ b. has_place ports b port bit) others ≡ false
apart-from ports a [] port bit ha free parts pa = refl
apart-from ports a (b ∷ others) port bit ha free parts pa =
    let both = both-false (takes (ports a.port) a.port a.part b) (is_taken (ports a.port) a.port a.part others) free in
    step (has_place ports b port bit) refl both.0 (apart-from ports a others port bit ha both.1 parts.2 pa)
  where
    step : (t : Bool) → has_place ports b port bit ≡ t → takes (ports a.port) a.port a.part b ≡ false → list_any (λ b. has_place ports b port bit) others ≡ false → (t || list_any (λ b. has_place ports b port bit) others) ≡ false
    step true is free rest = absurd (other-free ports a b port bit ha parts.0 free pa is)
    step false is free rest = rest

-- associations of parts in their ranges that do not overlap have no bit in common
pub apart_from_parts : (ports : Shapes) (made : List Association) → ArePartsApart ports made → AreApart ports made
apart_from_parts ports [] parts = tt
apart_from_parts ports (a ∷ others) parts = (λ port bit pa. apart-from ports a others port bit parts.0 parts.1 parts.2 pa, apart_from_parts ports others parts.2)
