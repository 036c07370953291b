-- Bits that associations take, and spans of them.
use Rattle.std.proofs.Common.{◌≡◌, ℕ, ◌+◌, true, false, List, [], ◌∷◌, refl, sym, ◌∙◌, ap, arith}
use Rattle.std.specs.Prelude.{Bool, not, cond, ◌&&◌, ◌||◌, ◌==◌, nat_le, Option, Some, None}
use Rattle.std.specs.List.{list_any}
use Rattle.std.specs.Option.{option_map_or}
use Rattle.std.proofs.lemmas.Bool.Decides.{nat_tests}
use Rattle.vital_declarations.specs.Numbers.{Range, length_of}
use Rattle.vital_structure.specs.Shapes.{Part, Shape, Scalar, Vector}
use Rattle.vital_associations.specs.Associations.{Association, PortMap, is_taken}
use Rattle.vital_associations.specs.Associations as associations
use Rattle.vital_associations.specs.Formals.{shape_at}
use Rattle.vital_associations.specs.Overlaps.{greatest, indices, least, meet, overlap}
use Rattle.vital_associations.proofs.BoundLemmas.{null_is}
use Rattle.vital_associations.specs.Spans.{Span, meets, span_between, span_of, span_of_range, takes_of}

-- ---- spans of one port

both-met : (p q la ga lb gb : ℕ) (na nb : Bool) → na ≡ not (nat_le la ga) → nb ≡ not (nat_le lb gb) → ((p == q) && (nat_le la ga && nat_le lb ga && nat_le la gb && nat_le lb gb)) ≡ option_map_or (λ x. option_map_or (λ y. meets y x) (cond na None (Some (span_between p (la + 1) (ga + 1)))) false) (cond nb None (Some (span_between q (lb + 1) (gb + 1)))) false
both-met p q la ga lb gb true true a b = grind (arith, nat_tests)
both-met p q la ga lb gb true false a b = grind (arith, nat_tests)
both-met p q la ga lb gb false true a b = grind (arith, nat_tests)
both-met p q la ga lb gb false false a b = grind (arith, nat_tests)

ranges-met : (p q : ℕ) (a b : Range) → ((p == q) && meet a b) ≡ option_map_or (λ x. option_map_or (λ y. meets y x) (span_of_range p a) false) (span_of_range q b) false
ranges-met p q a b = both-met p q (least a) (greatest a) (least b) (greatest b) (length_of a == 0) (length_of b == 0) (null_is a) (null_is b)

shapes-met : (s : Shape) (p q : ℕ) (a b : Part) → ((p == q) && overlap s a b) ≡ option_map_or (λ x. option_map_or (λ y. meets y x) (span_of s p a) false) (span_of s q b) false
shapes-met Scalar p q a b = grind (arith, nat_tests)
shapes-met (Vector r) p q a b = ranges-met p q (indices r a) (indices r b)

-- ---- spans of two ports

apart-range : (p q l g : ℕ) (b : Range) (nb : Bool) → (p == q) ≡ false → false ≡ option_map_or (λ x. meets (span_between p l g) x) (cond nb None (Some (span_between q (least b + 1) (greatest b + 1)))) false
apart-range p q l g b true h = refl
apart-range p q l g b false h = ap (λ t. t && nat_le l (greatest b + 1) && nat_le (least b + 1) g) (sym h)

apart-span : (p q l g : ℕ) (s : Shape) (b : Part) → (p == q) ≡ false → false ≡ option_map_or (λ x. meets (span_between p l g) x) (span_of s q b) false
apart-span p q l g Scalar b h = ap (λ t. t && nat_le l 0 && nat_le 0 g) (sym h)
apart-span p q l g (Vector r) b h = apart-range p q l g (indices r b) (length_of (indices r b) == 0) h

never : (o : Option Span) → false ≡ option_map_or (λ x. false) o false
never None = refl
never (Some x) = refl

apart-null : (p q l g : ℕ) (s : Shape) (b : Part) (n : Bool) → (p == q) ≡ false → false ≡ option_map_or (λ x. option_map_or (λ y. meets y x) (cond n None (Some (span_between p l g))) false) (span_of s q b) false
apart-null p q l g s b true h = never (span_of s q b)
apart-null p q l g s b false h = apart-span p q l g s b h

ports-apart : (s t : Shape) (p q : ℕ) (a b : Part) → (p == q) ≡ false → false ≡ option_map_or (λ x. option_map_or (λ y. meets y x) (span_of t p a) false) (span_of s q b) false
ports-apart s Scalar p q a b h = apart-span p q 0 0 s b h
ports-apart s (Vector r) p q a b h = apart-null p q (least (indices r a) + 1) (greatest (indices r a) + 1) s b (length_of (indices r a) == 0) h

-- ---- associations

takes-by : (m : PortMap) (n : ℕ) (p : Part) (a : Association) (b : Bool) → (a.port == n) ≡ b → (b ≡ true → a.port ≡ n) → associations.takes (shape_at m.formals n) n p a ≡ option_map_or (λ x. takes_of m x a) (span_of (shape_at m.formals n) n p) false
takes-by m n p a true is same =
    shapes-met (shape_at m.formals n) a.port n a.part p
    ∙ ap (λ k. option_map_or (λ x. option_map_or (λ y. meets y x) (span_of (shape_at m.formals k) a.port a.part) false) (span_of (shape_at m.formals n) n p) false) (sym (same refl))
takes-by m n p a false is same =
    ap (λ t. t && overlap (shape_at m.formals n) a.part p) is
    ∙ ports-apart (shape_at m.formals n) (shape_at m.formals a.port) a.port n a.part p is

-- an association takes a bit of a part of a port if it takes one of its span
takes-span : (m : PortMap) (n : ℕ) (p : Part) (a : Association) → associations.takes (shape_at m.formals n) n p a ≡ option_map_or (λ x. takes_of m x a) (span_of (shape_at m.formals n) n p) false
takes-span m n p a = takes-by m n p a (a.port == n) refl (λ h. grind (arith, nat_tests))

any-alike : {A : Type 0} (f g : A → Bool) (xs : List A) → ((x : A) → f x ≡ g x) → list_any f xs ≡ list_any g xs
any-alike f g [] same = refl
any-alike f g (x ∷ xs) same = ap (λ b. b || list_any f xs) (same x) ∙ ap (λ b. g x || b) (any-alike f g xs same)

any-none : {A : Type 0} (xs : List A) → list_any (λ x. false) xs ≡ false
any-none [] = refl
any-none (x ∷ xs) = any-none xs

any-in : (m : PortMap) (o : Option Span) (earlier : List Association) → list_any (λ a. option_map_or (λ x. takes_of m x a) o false) earlier ≡ option_map_or (λ x. list_any (takes_of m x) earlier) o false
any-in m None earlier = any-none earlier
any-in m (Some x) earlier = refl

-- earlier associations take a bit of a part of a port if they take one of its span
pub taken-span : (m : PortMap) (n : ℕ) (p : Part) (earlier : List Association) → is_taken (shape_at m.formals n) n p earlier ≡ option_map_or (λ x. list_any (takes_of m x) earlier) (span_of (shape_at m.formals n) n p) false
taken-span m n p earlier =
    any-alike (associations.takes (shape_at m.formals n) n p) (λ a. option_map_or (λ x. takes_of m x a) (span_of (shape_at m.formals n) n p) false) earlier (takes-span m n p)
    ∙ any-in m (span_of (shape_at m.formals n) n p) earlier
