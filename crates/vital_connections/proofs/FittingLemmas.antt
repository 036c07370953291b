-- What ports are associated with is there, and has as many bits.
use Rattle.std.proofs.Common.{◌≡◌, ℕ, ◌+◌, ◌-◌, ◌<◌, ◌≤◌, true, false, List, [], ◌∷◌, ◌++◌, length, refl, sym, ap, subst, ◌∙◌, arith}
use Rattle.std.specs.Prelude.{Bool, cond, ◌&&◌, ◌==◌, nat_le, nat_lt, is_some, ⊤, Option, Some, None, Result, Ok, Err}
use Rattle.std.specs.List.{AllByRecursion}
use Rattle.std.specs.Option.{option_and_then, option_map, option_map_or, option_or}
use Rattle.std.specs.Str.{bytes_eq}
use Rattle.std.proofs.lemmas.Bool.Decides.{nat_tests}
use Rattle.std.proofs.lemmas.List.Quantifiers.{position-Some}
use Rattle.vital_associations.specs.Actuals.{Actual, Open, Literal, Signal, given, given_by, shape_at, signal_named}
use Rattle.vital_associations.specs.Associations.{Association, PortMap, association_of, formal_of, is_taken, misfit_by_mode, misfit_of, unless, with_actual, with_formal}
use Rattle.vital_associations.specs.Formals as formals
use Rattle.vital_associations.specs.Items.{is_open, leading, name_of}
use Rattle.vital_associations.specs.Misfits.{misfit_of_shapes}
use Rattle.vital_associations.specs.PortMaps.{associated, associated_behind, followed}
use Rattle.vital_associations.specs.declared.misfit.Misfit.{Misfit}
use Rattle.vital_associations.specs.declared.misfit.Misfit.TheVariants as why
use Rattle.vital_connections.specs.Connections.{bit_of, connection, connection_by, place_in, within}
use Rattle.vital_connections.specs.Connections as connections
use Rattle.vital_declarations.specs.Numbers.{length_of}
use Rattle.vital_logic.specs.declared.level.Level.{Level}
use Rattle.vital_nodes.specs.declared.decl.Iface.{Iface}
use Rattle.vital_nodes.specs.declared.expr.Direction.{Direction}
use Rattle.vital_nodes.specs.declared.expr.Direction.TheVariants.{To, Downto}
use Rattle.vital_nodes.specs.declared.expr.Expr.{Expr}
use Rattle.vital_nodes.specs.declared.expr.Item.{Item}
use Rattle.vital_nodes.specs.declared.expr.Reference.{Reference}
use Rattle.vital_structure.specs.Shapes.{Part, Whole, Element, Slice, Shape, Scalar, Vector, bits_of, first_of, has_part, part_behind, shape_of_part}
use Rattle.vital_structure.specs.Signals.{UnitSignal, level_literal}
use Rattle.vital_structure.specs.Structures.{number_of}
use Rattle.vital_nodes.specs.Items.{actual}

-- ---- an actual

-- a part of a port or signal that is there, in its range
abbrev IsGiven : List UnitSignal → Actual → Type 0
IsGiven ss Open = ⊤
IsGiven ss (Literal l) = ⊤
IsGiven ss (Signal n q) = (n < length ss) × (has_part (shape_at ss n) q ≡ true)

signal-there : (ss : List UnitSignal) (name : List ℕ) (n : ℕ) → number_of ss name ≡ Some n → n < length ss
signal-there [] name n is = absurd (cc)
signal-there (s ∷ others) name n is = (position-Some (λ t. bytes_eq t.identifier.name name) (s ∷ others) n s is).0

in-range : (s : Shape) (p q : Part) (b : Bool) → has_part s p ≡ b → cond b (Some p) None ≡ Some q → has_part s q ≡ true
in-range s p q true is e = let same : p ≡ q = cc in ap (has_part s) (sym same) ∙ is
in-range s p q false is e = absurd (cc)

part-good : (s : Shape) (q : Part) (o : Option Part) → option_and_then (formals.if_in s) o ≡ Some q → has_part s q ≡ true
part-good s q None e = absurd (cc)
part-good s q (Some p) e = in-range s p q (has_part s p) refl e

with-part : (ss : List UnitSignal) (n : ℕ) (x : Actual) (o : Option Part) → n < length ss → ((q : Part) → o ≡ Some q → has_part (shape_at ss n) q ≡ true) → option_map (λ p. Signal n p) o ≡ Some x → IsGiven ss x
with-part ss n x None there good e = absurd (cc)
with-part ss n x (Some q) there good e = let same : Signal n q ≡ x = cc in subst (IsGiven ss) same (there, good q refl)

with-number : (ss : List UnitSignal) (name : Reference) (x : Actual) (o : Option ℕ) → ((n : ℕ) → o ≡ Some n → n < length ss) → option_and_then (λ n. option_map (λ p. Signal n p) (formals.part_in (shape_at ss n) name.suffixes)) o ≡ Some x → IsGiven ss x
with-number ss name x None there e = absurd (cc)
with-number ss name x (Some n) there e =
    with-part ss n x (formals.part_in (shape_at ss n) name.suffixes) (there n refl) (λ q is. part-good (shape_at ss n) q (part_behind name.suffixes) is) e

named-given : (ss : List UnitSignal) (name : Reference) (x : Actual) → signal_named ss name ≡ Some x → IsGiven ss x
named-given ss name x e = with-number ss name x (number_of ss name.identifier.name) (signal-there ss name.identifier.name) e

literal-given : (ss : List UnitSignal) (x : Actual) (o : Option Level) → option_map (λ l. Literal l) o ≡ Some x → IsGiven ss x
literal-given ss x None e = absurd (cc)
literal-given ss x (Some l) e = let same : Literal l ≡ x = cc in subst (IsGiven ss) same tt

by-name : (ss : List UnitSignal) (e : Expr) (x : Actual) (o : Option Reference) → option_map_or (signal_named ss) o (option_map (λ l. Literal l) (level_literal e)) ≡ Some x → IsGiven ss x
by-name ss e x None is = literal-given ss x (level_literal e) is
by-name ss e x (Some name) is = named-given ss name x is

by-actual : (ss : List UnitSignal) (x : Actual) (o : Option Expr) → option_and_then (given_by ss) o ≡ Some x → IsGiven ss x
by-actual ss x None e = absurd (cc)
by-actual ss x (Some a) e = by-name ss a x (name_of a) e

by-open : (ss : List UnitSignal) (i : Item) (x : Actual) (b : Bool) → cond b (Some Open) (option_and_then (given_by ss) (actual i)) ≡ Some x → IsGiven ss x
by-open ss i x true e = let same : Open ≡ x = cc in subst (IsGiven ss) same tt
by-open ss i x false e = by-actual ss x (actual i) e

given-there : (ss : List UnitSignal) (i : Item) (x : Actual) → given ss i ≡ Some x → IsGiven ss x
given-there ss i x e = by-open ss i x (is_open i) e

-- ---- an association

-- an actual that has as many bits as a formal of this shape
abbrev ActualFits : Shape → List UnitSignal → Actual → Type 0
ActualFits s ss Open = ⊤
ActualFits s ss (Literal l) = ⊤
ActualFits s ss (Signal n q) = (n < length ss) × (has_part (shape_at ss n) q ≡ true) × (bits_of s ≡ bits_of (shape_of_part (shape_at ss n) q))

abbrev Fits : List Iface → List UnitSignal → Association → Type 0
Fits ports ss a = ActualFits (shape_of_part (formals.shape_at ports a.port) a.part) ss a.actual

length-test : (a b : ℕ) (t : Bool) → (a == b) ≡ t → cond t None (Some why.Width) ≡ None → a ≡ b
length-test a b true same e = grind (arith, nat_tests)
length-test a b false other e = absurd (cc)

same-bits : (s t : Shape) → misfit_of_shapes s t ≡ None → bits_of s ≡ bits_of t
same-bits Scalar Scalar is = refl
same-bits Scalar (Vector b) is = absurd (cc)
same-bits (Vector a) Scalar is = absurd (cc)
same-bits (Vector a) (Vector b) is = length-test (length_of a) (length_of b) (length_of a == length_of b) refl is

first-none : (a b : Option Misfit) → option_or a b ≡ None → a ≡ None
first-none None b is = refl
first-none (Some w) b is = absurd (cc)

fitting : (m : PortMap) (n : ℕ) (p : Part) (x : Actual) → IsGiven m.signals x → misfit_of m n p x ≡ None → ActualFits (shape_of_part (formals.shape_at m.formals n) p) m.signals x
fitting m n p Open there is = tt
fitting m n p (Literal l) there is = tt
fitting m n p (Signal k q) there is =
    let s = shape_of_part (formals.shape_at m.formals n) p in
    let t = shape_of_part (shape_at m.signals k) q in
    (there.0, there.1, same-bits s t (first-none (misfit_of_shapes s t) (misfit_by_mode m n (Signal k q)) is))

made-fits : (m : PortMap) (n : ℕ) (p : Part) (x : Actual) (a : Association) (o : Option Misfit) → misfit_of m n p x ≡ o → IsGiven m.signals x → unless o (record { port = n; part = p; actual = x }) ≡ Ok a → Fits m.formals m.signals a
made-fits m n p x a None is there e =
    let made : Association = record { port = n; part = p; actual = x } in
    let same : made ≡ a = cc in
    subst (Fits m.formals m.signals) same (fitting m n p x there is)
made-fits m n p x a (Some w) is there e = absurd (cc)

actual-fits : (m : PortMap) (i : Item) (n : ℕ) (p : Part) (a : Association) (o : Option Actual) → given m.signals i ≡ o → with_actual m n p o ≡ Ok a → Fits m.formals m.signals a
actual-fits m i n p a None is e = absurd (cc)
actual-fits m i n p a (Some x) is e = made-fits m n p x a (misfit_of m n p x) refl (given-there m.signals i x is) e

free-fits : (m : PortMap) (i : Item) (n : ℕ) (p : Part) (a : Association) (b : Bool) → cond b (Err why.Twice) (with_actual m n p (given m.signals i)) ≡ Ok a → Fits m.formals m.signals a
free-fits m i n p a true e = absurd (cc)
free-fits m i n p a false e = actual-fits m i n p a (given m.signals i) refl e

formal-fits : (m : PortMap) (earlier : List Association) (i : Item) (a : Association) (o : Option (ℕ × Part)) → with_formal m earlier i o ≡ Ok a → Fits m.formals m.signals a
formal-fits m earlier i a None e = absurd (cc)
formal-fits m earlier i a (Some f) e = free-fits m i f.0 f.1 a (is_taken (formals.shape_at m.formals f.0) f.0 f.1 earlier) e

item-fits : (m : PortMap) (earlier : List Association) (i : Item) (a : Association) → association_of m earlier i ≡ Ok a → Fits m.formals m.signals a
item-fits m earlier i a e = formal-fits m earlier i a (formal_of m (length earlier) i) e

-- ---- all associations

abbrev AllFit : List Iface → List UnitSignal → List Association → Type 0
AllFit ports ss made = AllByRecursion (Fits ports ss) made

fit-more : (ports : List Iface) (ss : List UnitSignal) (earlier : List Association) (a : Association) → AllFit ports ss earlier → Fits ports ss a → AllFit ports ss (earlier ++ a ∷ [])
fit-more ports ss [] a all one = (one, tt)
fit-more ports ss (e ∷ earlier) a all one = (all.0, fit-more ports ss earlier a all.1 one)

all-behind : (m : PortMap) (earlier : List Association) (items : List Item) (made : List Association) → AllFit m.formals m.signals earlier → associated_behind m earlier items ≡ Ok made → AllFit m.formals m.signals made
all-behind m earlier [] made all e = let same : earlier ≡ made = cc in subst (AllFit m.formals m.signals) same all
all-behind m earlier (i ∷ others) made all e = step (association_of m earlier i) refl e (λ a. all-behind m (earlier ++ a ∷ []) others made)
  where
    step : (r : Result Association Misfit) → association_of m earlier i ≡ r → followed r i (λ a. associated_behind m (earlier ++ a ∷ []) others) ≡ Ok made → ((a : Association) → AllFit m.formals m.signals (earlier ++ a ∷ []) → associated_behind m (earlier ++ a ∷ []) others ≡ Ok made → AllFit m.formals m.signals made) → AllFit m.formals m.signals made
    step (Ok a) is e rest = rest a (fit-more m.formals m.signals earlier a all (item-fits m earlier i a is)) e
    step (Err w) is e rest = absurd (cc)

-- the associations of an instance
associated-fit : (ports : List Iface) (ss : List UnitSignal) (items : List Item) (made : List Association) → associated ports ss items ≡ Ok made → AllFit ports ss made
associated-fit ports ss items made e = all-behind (record { formals = ports; signals = ss; leading = leading items }) [] items made tt e

-- ---- parts

-- a number in a range of numbers that rises, and one in a range that falls
up-inside : (left right n first : ℕ) (t : Bool) → (nat_le left n && nat_le n right) ≡ t → cond t (Some (n - left)) None ≡ Some first → (left + first ≡ n) × (n ≤ right)
up-inside left right n first true inside e = let is : n - left ≡ first = cc in (grind (arith, nat_tests), grind (arith, nat_tests))
up-inside left right n first false inside e = absurd (cc)

down-inside : (left right n first : ℕ) (t : Bool) → (nat_le n left && nat_le right n) ≡ t → cond t (Some (left - n)) None ≡ Some first → (n + first ≡ left) × (right ≤ n)
down-inside left right n first true inside e = let is : left - n ≡ first = cc in (grind (arith, nat_tests), grind (arith, nat_tests))
down-inside left right n first false inside e = absurd (cc)

both-true : (a b : Bool) → (a && b) ≡ true → (a ≡ true) × (b ≡ true)
both-true true b h = (refl, h)
both-true false b h = absurd (cc)

up-test : (left right n : ℕ) (t : Bool) → (nat_le left n && nat_le n right) ≡ t → is_some (cond t (Some (n - left)) None) ≡ true → n ≤ right
up-test left right n true inside h = grind (arith, nat_tests)
up-test left right n false inside h = absurd (cc)

down-test : (left right n : ℕ) (t : Bool) → (nat_le n left && nat_le right n) ≡ t → is_some (cond t (Some (left - n)) None) ≡ true → right ≤ n
down-test left right n true inside h = grind (arith, nat_tests)
down-test left right n false inside h = absurd (cc)

-- a bit of a part is in the whole
part-inside : (s : Shape) (q : Part) (first d : ℕ) → has_part s q ≡ true → first_of s q ≡ Some first → d < bits_of (shape_of_part s q) → (first + d) < bits_of s
part-inside s Whole first d has at below = let none : 0 ≡ first = cc in omega (arith, none, below)
part-inside Scalar (Element n) first d has at below = absurd (cc)
part-inside (Vector r) (Element n) first d has at below = by-direction r.direction at
  where
    by-direction : (dir : Direction) → first_of (Vector (record { left = r.left; direction = dir; right = r.right })) (Element n) ≡ Some first → (first + d) < bits_of (Vector (record { left = r.left; direction = dir; right = r.right }))
    by-direction To e = let at = up-inside r.left r.right n first (nat_le r.left n && nat_le n r.right) refl e in omega (arith, at.0, at.1, below)
    by-direction Downto e = let at = down-inside r.left r.right n first (nat_le n r.left && nat_le r.right n) refl e in omega (arith, at.0, at.1, below)
part-inside Scalar (Slice t) first d has at below = absurd (cc)
part-inside (Vector r) (Slice t) first d has at below = by-directions r.direction t.direction has at below
  where
    by-directions : (dir tdir : Direction) → has_part (Vector (record { left = r.left; direction = dir; right = r.right })) (Slice (record { left = t.left; direction = tdir; right = t.right })) ≡ true → first_of (Vector (record { left = r.left; direction = dir; right = r.right })) (Slice (record { left = t.left; direction = tdir; right = t.right })) ≡ Some first → d < bits_of (Vector (record { left = t.left; direction = tdir; right = t.right })) → (first + d) < bits_of (Vector (record { left = r.left; direction = dir; right = r.right }))
    by-directions To To has at below =
        let left = up-inside r.left r.right t.left first (nat_le r.left t.left && nat_le t.left r.right) refl at in
        let right = up-test r.left r.right t.right (nat_le r.left t.right && nat_le t.right r.right) refl (both-true _ _ has).1 in
        omega (arith, left.0, left.1, right, below)
    by-directions Downto Downto has at below =
        let left = down-inside r.left r.right t.left first (nat_le t.left r.left && nat_le r.right t.left) refl at in
        let right = down-test r.left r.right t.right (nat_le t.right r.left && nat_le r.right t.right) refl (both-true _ _ has).1 in
        omega (arith, left.0, left.1, right, below)
    by-directions To Downto has at below = absurd (cc)
    by-directions Downto To has at below = absurd (cc)

-- ---- what a bit is associated with

within-below : (bit len first d : ℕ) (t : Bool) → (nat_le first bit && nat_lt (bit - first) len) ≡ t → cond t (Some (bit - first)) None ≡ Some d → d < len
within-below bit len first d true inside e = let is : bit - first ≡ d = cc in grind (arith, nat_tests)
within-below bit len first d false inside e = absurd (cc)

place-below : (s : Shape) (p : Part) (bit d : ℕ) (o : Option ℕ) → option_and_then (within bit (bits_of (shape_of_part s p))) o ≡ Some d → d < bits_of (shape_of_part s p)
place-below s p bit d None e = absurd (cc)
place-below s p bit d (Some first) e =
    let len = bits_of (shape_of_part s p) in
    within-below bit len first d (nat_le first bit && nat_lt (bit - first) len) refl e

abbrev IsInside : List UnitSignal → ℕ → ℕ → Type 0
IsInside ss object offset = (object < length ss) × (offset < bits_of (shape_at ss object))

place-inside : (ss : List UnitSignal) (n : ℕ) (q : Part) (d object offset : ℕ) (o : Option ℕ) → first_of (shape_at ss n) q ≡ o → n < length ss → has_part (shape_at ss n) q ≡ true → d < bits_of (shape_of_part (shape_at ss n) q) → option_map (λ place. connections.Bit n place) (option_map (λ first. first + d) o) ≡ Some (connections.Bit object offset) → IsInside ss object offset
place-inside ss n q d object offset None at there has below e = absurd (cc)
place-inside ss n q d object offset (Some first) at there has below e =
    let is : connections.Bit n (first + d) ≡ connections.Bit object offset = cc in
    let same : n ≡ object = cc in
    let far : first + d ≡ offset = cc in (
      subst (λ (k : ℕ). k < length ss) same there,
      subst (λ (m : ℕ). m < bits_of (shape_at ss object)) far (subst (λ (k : ℕ). (first + d) < bits_of (shape_at ss k)) same (part-inside (shape_at ss n) q first d has at below)),
    )

actual-inside : (ss : List UnitSignal) (s : Shape) (x : Actual) (d object offset : ℕ) → ActualFits s ss x → d < bits_of s → bit_of (shape_at ss) x d ≡ Some (connections.Bit object offset) → IsInside ss object offset
actual-inside ss s Open d object offset fits below e = absurd (cc)
actual-inside ss s (Literal l) d object offset fits below e = absurd (cc)
actual-inside ss s (Signal n q) d object offset fits below e =
    place-inside ss n q d object offset (first_of (shape_at ss n) q) refl fits.0 fits.1 (subst (λ (len : ℕ). d < len) fits.2 below) e

at-place : (ports : List Iface) (ss : List UnitSignal) (a : Association) (port bit object offset : ℕ) (o : Option ℕ) → place_in (formals.shape_at ports port) a.part bit ≡ o → port ≡ a.port → Fits ports ss a → option_and_then (bit_of (shape_at ss) a.actual) o ≡ Some (connections.Bit object offset) → IsInside ss object offset
at-place ports ss a port bit object offset None at same fits e = absurd (cc)
at-place ports ss a port bit object offset (Some d) at same fits e =
    actual-inside ss (shape_of_part (formals.shape_at ports a.port) a.part) a.actual d object offset fits
    (subst (λ (k : ℕ). d < bits_of (shape_of_part (formals.shape_at ports k) a.part)) same
    (place-below (formals.shape_at ports port) a.part bit d (first_of (formals.shape_at ports port) a.part) at)) e

same-number : (a b : ℕ) → (a == b) ≡ true → a ≡ b
same-number a b h = grind (arith, nat_tests)

by-port : (ports : List Iface) (ss : List UnitSignal) (a : Association) (port bit object offset : ℕ) (t : Bool) → (a.port == port) ≡ t → Fits ports ss a → cond t (option_and_then (bit_of (shape_at ss) a.actual) (place_in (formals.shape_at ports port) a.part bit)) None ≡ Some (connections.Bit object offset) → IsInside ss object offset
by-port ports ss a port bit object offset true is fits e =
    at-place ports ss a port bit object offset (place_in (formals.shape_at ports port) a.part bit) refl (sym (same-number a.port port is)) fits e
by-port ports ss a port bit object offset false is fits e = absurd (cc)

connection-inside : (ports : List Iface) (ss : List UnitSignal) (port bit object offset : ℕ) (made : List Association) → AllFit ports ss made → connection (formals.shape_at ports) (shape_at ss) port bit made ≡ Some (connections.Bit object offset) → IsInside ss object offset
connection-inside ports ss port bit object offset [] fit e = absurd (cc)
connection-inside ports ss port bit object offset (a ∷ made) fit e =
    by-first (connection_by (formals.shape_at ports) (shape_at ss) port bit a) refl e (connection-inside ports ss port bit object offset made fit.1)
  where
    by-first : (o : Option connections.Connection) → connection_by (formals.shape_at ports) (shape_at ss) port bit a ≡ o → option_or o (connection (formals.shape_at ports) (shape_at ss) port bit made) ≡ Some (connections.Bit object offset) → (connection (formals.shape_at ports) (shape_at ss) port bit made ≡ Some (connections.Bit object offset) → IsInside ss object offset) → IsInside ss object offset
    by-first None is e rest = rest e
    by-first (Some x) is e rest = by-port ports ss a port bit object offset (a.port == port) refl fit.0 (is ∙ e)

-- a bit that a bit of a port is associated with is there
pub associated-inside : (ports : List Iface) (ss : List UnitSignal) (items : List Item) (made : List Association) → associated ports ss items ≡ Ok made → (port bit object offset : ℕ) → connection (formals.shape_at ports) (shape_at ss) port bit made ≡ Some (connections.Bit object offset) → (object < length ss) × (offset < bits_of (shape_at ss object))
associated-inside ports ss items made e port bit object offset is = connection-inside ports ss port bit object offset made (associated-fit ports ss items made e) is
