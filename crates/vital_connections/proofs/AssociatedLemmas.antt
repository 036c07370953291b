-- Good associations are of ports, and have no bit in common.
use Rattle.std.proofs.Common.{◌≡◌, ℕ, ◌<◌, true, false, List, [], ◌∷◌, ◌++◌, length, refl, sym, ap, subst, ◌∙◌, arith}
use Rattle.std.specs.Prelude.{Bool, cond, ◌&&◌, ◌||◌, ◌==◌, nat_le, nat_lt, position, All, Option, Some, None, Result, Ok, Err}
use Rattle.std.specs.List.{list_any}
use Rattle.std.specs.Option.{option_and_then, option_map}
use Rattle.std.specs.Str.{bytes_eq}
use Rattle.std.proofs.lemmas.Bool.Decides.{nat_tests}
use Rattle.std.proofs.lemmas.List.Elements.{All-nil, All-push}
use Rattle.std.proofs.lemmas.List.Quantifiers.{position-Some}
use Rattle.vital_associations.specs.Actuals.{Actual, given}
use Rattle.vital_associations.specs.Associations.{Association, PortMap, association_of, formal_of, is_taken, misfit_of, port_at, takes, unless, with_actual, with_formal}
use Rattle.vital_associations.specs.Formals.{formal_named, if_in, part_in, shape_at}
use Rattle.vital_associations.specs.Items.{formal_name, leading}
use Rattle.vital_associations.specs.Overlaps.{greatest, indices, least, overlap}
use Rattle.vital_associations.specs.PortMaps.{associated, associated_behind, followed}
use Rattle.vital_associations.specs.declared.misfit.Misfit.{Misfit}
use Rattle.vital_associations.specs.declared.misfit.Misfit.TheVariants as why
use Rattle.vital_connections.specs.Connections.{AreApart, Shapes}
use Rattle.vital_connections.proofs.PartLemmas.{ArePartsApart, apart_from_parts}
use Rattle.vital_nodes.specs.declared.decl.Iface.{Iface}
use Rattle.vital_nodes.specs.declared.expr.Item.{Item}
use Rattle.vital_nodes.specs.declared.expr.Reference.{Reference}
use Rattle.vital_structure.specs.Shapes.{Part, Whole, Shape, Scalar, Vector, has_part, part_behind}
use Rattle.vital_structure.specs.Signals.{UnitSignal}

-- ---- one association more

four : (a b c d : Bool) → (a && b && c && d) ≡ (d && c && b && a)
four true true true true = refl
four true true true false = refl
four true true false true = refl
four true true false false = refl
four true false true true = refl
four true false true false = refl
four true false false true = refl
four true false false false = refl
four false true true true = refl
four false true true false = refl
four false true false true = refl
four false true false false = refl
four false false true true = refl
four false false true false = refl
four false false false true = refl
four false false false false = refl

overlap-turned : (s : Shape) (p q : Part) → overlap s p q ≡ overlap s q p
overlap-turned Scalar p q = refl
overlap-turned (Vector r) p q =
    four (nat_le (least (indices r p)) (greatest (indices r p))) (nat_le (least (indices r q)) (greatest (indices r p))) (nat_le (least (indices r p)) (greatest (indices r q)))
    (nat_le (least (indices r q)) (greatest (indices r q)))

same-number : (a b : ℕ) → (a == b) ≡ true → a ≡ b
same-number a b h = grind (arith, nat_tests)

turned-number : (a b : ℕ) → (a == b) ≡ (b == a)
turned-number a b = grind (arith, nat_tests)

takes-turned : (ports : Shapes) (a e : Association) → takes (ports a.port) a.port a.part e ≡ false → takes (ports e.port) e.port e.part a ≡ false
takes-turned ports a e free = step (a.port == e.port) refl
  where
    step : (b : Bool) → (a.port == e.port) ≡ b → (b && overlap (ports e.port) a.part e.part) ≡ false
    step true is =
        ap (λ n. overlap (ports n) a.part e.part) (sym (same-number a.port e.port is))
        ∙ overlap-turned (ports a.port) a.part e.part
        ∙ ap (λ b. b && overlap (ports a.port) e.part a.part) (sym (turned-number e.port a.port ∙ is))
        ∙ free
    step false is = refl

any-more : (test : Association → Bool) (xs : List Association) (x : Association) → list_any test xs ≡ false → test x ≡ false → list_any test (xs ++ x ∷ []) ≡ false
any-more test [] x none last = ap (λ b. b || false) last
any-more test (y ∷ ys) x none last = step (test y) none (any-more test ys x)
  where
    step : (b : Bool) → (b || list_any test ys) ≡ false → (list_any test ys ≡ false → test x ≡ false → list_any test (ys ++ x ∷ []) ≡ false) → (b || list_any test (ys ++ x ∷ [])) ≡ false
    step true h rest = absurd (cc)
    step false h rest = rest h last

both-false : (a b : Bool) → (a || b) ≡ false → (a ≡ false) × (b ≡ false)
both-false true b h = absurd (cc)
both-false false b h = (refl, h)

parts-more : (ports : Shapes) (earlier : List Association) (a : Association) → ArePartsApart ports earlier → has_part (ports a.port) a.part ≡ true → is_taken (ports a.port) a.port a.part earlier ≡ false → ArePartsApart ports (earlier ++ a ∷ [])
parts-more ports [] a parts has free = (has, refl, tt)
parts-more ports (e ∷ earlier) a parts has free =
    let both = both-false (takes (ports a.port) a.port a.part e) (is_taken (ports a.port) a.port a.part earlier) free in (
      parts.0,
      any-more (takes (ports e.port) e.port e.part) earlier a parts.1 (takes-turned ports a e both.0),
      parts-more ports earlier a parts.2 has both.1,
    )

-- ---- the formal of an association is a part of a port, in its range

in-range : (s : Shape) (p q : Part) (b : Bool) → has_part s p ≡ b → cond b (Some p) None ≡ Some q → has_part s q ≡ true
in-range s p q true is e = let same : p ≡ q = cc in ap (has_part s) (sym same) ∙ is
in-range s p q false is e = absurd (cc)

part-good : (s : Shape) (q : Part) (o : Option Part) → option_and_then (if_in s) o ≡ Some q → has_part s q ≡ true
part-good s q None e = absurd (cc)
part-good s q (Some p) e = in-range s p q (has_part s p) refl e

abbrev IsGood : List Iface → ℕ × Part → Type 0
IsGood formals f = (f.0 < length formals) × (has_part (shape_at formals f.0) f.1 ≡ true)

with-part : (formals : List Iface) (n : ℕ) (f : ℕ × Part) (o : Option Part) → n < length formals → ((q : Part) → o ≡ Some q → has_part (shape_at formals n) q ≡ true) → option_map (λ p. (n, p)) o ≡ Some f → IsGood formals f
with-part formals n f None there good e = absurd (cc)
with-part formals n f (Some p) there good e =
    let is : ◌≡◌ {A = ℕ × Part} (n, p) f = cc in
    subst (λ (g : ℕ × Part). IsGood formals g) is (there, good p refl)

port-there : (formals : List Iface) (name : List ℕ) (n : ℕ) → position (λ port. bytes_eq port.identifier.name name) formals ≡ Some n → n < length formals
port-there [] name n is = absurd (cc)
port-there (i ∷ others) name n is = (position-Some (λ port. bytes_eq port.identifier.name name) (i ∷ others) n i is).0

with-number : (formals : List Iface) (name : Reference) (f : ℕ × Part) (o : Option ℕ) → ((n : ℕ) → o ≡ Some n → n < length formals) → option_and_then (λ n. option_map (λ p. (n, p)) (part_in (shape_at formals n) name.suffixes)) o ≡ Some f → IsGood formals f
with-number formals name f None there e = absurd (cc)
with-number formals name f (Some n) there e =
    with-part formals n f (part_in (shape_at formals n) name.suffixes) (there n refl) (λ q is. part-good (shape_at formals n) q (part_behind name.suffixes) is) e

with-name : (formals : List Iface) (f : ℕ × Part) (o : Option Reference) → option_and_then (formal_named formals) o ≡ Some f → IsGood formals f
with-name formals f None e = absurd (cc)
with-name formals f (Some name) e = with-number formals name f (position (λ port. bytes_eq port.identifier.name name.identifier.name) formals) (port-there formals name.identifier.name) e

below : (a b : ℕ) → nat_lt a b ≡ true → a < b
below a b h = grind (arith, nat_tests)

whole-good : (formals : List Iface) (n : ℕ) (f : ℕ × Part) (b : Bool) → nat_lt n (length formals) ≡ b → cond b (Some (n, Whole)) None ≡ Some f → IsGood formals f
whole-good formals n f true there e =
    let is : ◌≡◌ {A = ℕ × Part} (n, Whole) f = cc in
    subst (λ (g : ℕ × Part). IsGood formals g) is (below n (length formals) there, refl)
whole-good formals n f false there e = absurd (cc)

formal-good : (m : PortMap) (n : ℕ) (i : Item) (f : ℕ × Part) (b : Bool) → cond b (port_at m n) (option_and_then (formal_named m.formals) (formal_name i)) ≡ Some f → IsGood m.formals f
formal-good m n i f true e = whole-good m.formals n f (nat_lt n (length m.formals)) refl e
formal-good m n i f false e = with-name m.formals f (formal_name i) e

-- ---- the association of one item

abbrev IsNew : PortMap → List Association → Association → Type 0
IsNew m earlier a = IsGood m.formals (a.port, a.part) × (is_taken (shape_at m.formals a.port) a.port a.part earlier ≡ false)

made-new : (m : PortMap) (earlier : List Association) (b a : Association) (o : Option Misfit) → IsNew m earlier b → unless o b ≡ Ok a → IsNew m earlier a
made-new m earlier b a None new e = let same : b ≡ a = cc in subst (IsNew m earlier) same new
made-new m earlier b a (Some w) new e = absurd (cc)

actual-new : (m : PortMap) (earlier : List Association) (n : ℕ) (p : Part) (a : Association) (o : Option Actual) → IsGood m.formals (n, p) → is_taken (shape_at m.formals n) n p earlier ≡ false → with_actual m n p o ≡ Ok a → IsNew m earlier a
actual-new m earlier n p a None good free e = absurd (cc)
actual-new m earlier n p a (Some x) good free e = made-new m earlier (record { port = n; part = p; actual = x }) a (misfit_of m n p x) (good, free) e

free-new : (m : PortMap) (earlier : List Association) (i : Item) (n : ℕ) (p : Part) (a : Association) (b : Bool) → is_taken (shape_at m.formals n) n p earlier ≡ b → IsGood m.formals (n, p) → cond b (Err why.Twice) (with_actual m n p (given m.signals i)) ≡ Ok a → IsNew m earlier a
free-new m earlier i n p a true is good e = absurd (cc)
free-new m earlier i n p a false is good e = actual-new m earlier n p a (given m.signals i) good is e

formal-new : (m : PortMap) (earlier : List Association) (i : Item) (a : Association) (o : Option (ℕ × Part)) → ((f : ℕ × Part) → o ≡ Some f → IsGood m.formals f) → with_formal m earlier i o ≡ Ok a → IsNew m earlier a
formal-new m earlier i a None good e = absurd (cc)
formal-new m earlier i a (Some f) good e = free-new m earlier i f.0 f.1 a (is_taken (shape_at m.formals f.0) f.0 f.1 earlier) refl (good f refl) e

item-new : (m : PortMap) (earlier : List Association) (i : Item) (a : Association) → association_of m earlier i ≡ Ok a → IsNew m earlier a
item-new m earlier i a e =
    formal-new m earlier i a (formal_of m (length earlier) i) (λ f is. formal-good m (length earlier) i f (nat_lt (length earlier) m.leading) is) e

-- ---- all items

abbrev HavePorts : List Iface → List Association → Type 0
HavePorts formals made = All (λ a. a.port < length formals) made

-- associations of ports, and of parts that are apart
abbrev AreNew : PortMap → List Association → Type 0
AreNew m made = HavePorts m.formals made × ArePartsApart (shape_at m.formals) made

new-more : (m : PortMap) (earlier : List Association) (a : Association) → AreNew m earlier → IsNew m earlier a → AreNew m (earlier ++ a ∷ [])
new-more m earlier a are new =
    (All-push (λ a. a.port < length m.formals) earlier a are.0 new.0.0, parts-more (shape_at m.formals) earlier a are.1 new.0.1 new.1)

new-behind : (m : PortMap) (earlier : List Association) (items : List Item) (made : List Association) → AreNew m earlier → associated_behind m earlier items ≡ Ok made → AreNew m made
new-behind m earlier [] made are e = let same : earlier ≡ made = cc in subst (AreNew m) same are
new-behind m earlier (i ∷ others) made are e = step (association_of m earlier i) refl e (λ a. new-behind m (earlier ++ a ∷ []) others made)
  where
    step : (r : Result Association Misfit) → association_of m earlier i ≡ r → followed r i (λ a. associated_behind m (earlier ++ a ∷ []) others) ≡ Ok made → ((a : Association) → AreNew m (earlier ++ a ∷ []) → associated_behind m (earlier ++ a ∷ []) others ≡ Ok made → AreNew m made) → AreNew m made
    step (Ok a) is e rest = rest a (new-more m earlier a are (item-new m earlier i a is)) e
    step (Err w) is e rest = absurd (cc)

all-new : (formals : List Iface) (signals : List UnitSignal) (items : List Item) (made : List Association) → associated formals signals items ≡ Ok made → AreNew (record { formals = formals; signals = signals; leading = leading items }) made
all-new formals signals items made e =
    let m : PortMap = record { formals = formals; signals = signals; leading = leading items } in
    new-behind m [] items made (All-nil (λ a. a.port < length formals), tt) e

-- the associations of an instance are of its ports
pub associated_ports : (formals : List Iface) (signals : List UnitSignal) (items : List Item) (made : List Association) → associated formals signals items ≡ Ok made → All (λ a. a.port < length formals) made
associated_ports formals signals items made e = (all-new formals signals items made e).0

-- they have no bit in common
pub associated_apart : (formals : List Iface) (signals : List UnitSignal) (items : List Item) (made : List Association) → associated formals signals items ≡ Ok made → AreApart (shape_at formals) made
associated_apart formals signals items made e = apart_from_parts (shape_at formals) made (all-new formals signals items made e).1
