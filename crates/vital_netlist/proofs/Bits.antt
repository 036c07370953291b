-- The bits of a design: each is one of a port or signal that is there, and each of these is one of the bits.
use Rattle.std.proofs.Common.{◌≡◌, ℕ, ◌<◌, true, false, List, refl, ◌∙◌, arith}
use Rattle.std.specs.Prelude.{Bool, ◌&&◌, ◌==◌, Some}
use Rattle.std.specs.List.{AllByRecursion, enumerate_from, list_any, range_with_len, slice_get}
use Rattle.std.proofs.lemmas.Bool.Decides.{nat_tests}
use Rattle.vital_connections.specs.Objects.{Object, bits_of_all, whole_bits}
use Rattle.vital_instances.specs.declared.instance.Instance.{Instance}
use Rattle.vital_netlist.specs.declared.bit.Bit.{Bit}
use Rattle.vital_netlist.specs.Bits.{bit, bits, bits_of_instance, is_same}
use Rattle.vital_netlist.specs.DesignObjects.{objects_at}
use Rattle.vital_nodes.specs.declared.unit.Units.{Units}
use Rattle.vital_structure.specs.Shapes.{bits_of}
use Rattle.vital_netlist.proofs.Lists.{any-below, any-flat, any-map, each-below, each-flat, each-map, each-numbered, get-numbered}

-- a bit of a port or signal of an instance
pub record IsThere (files : List Units) (found : List Instance) (b : Bit) : Type 0 where
  pub owner : Instance
  pub placed : slice_get found b.instance ≡ Some owner
  pub object : Object
  pub has : slice_get (objects_at files owner.entity) b.object ≡ Some object
  pub inside : b.offset < bits_of object.shape

-- ---- each bit is there

module _ (files : List Units) (found : List Instance) where
  of-object : (n : ℕ) (i : Instance) (m : ℕ) (o : Object) → slice_get found n ≡ Some i → slice_get (objects_at files i.entity) m ≡ Some o → AllByRecursion (λ b. IsThere files found (bit n b)) (whole_bits (m, o))
  of-object n i m o placed has =
      each-map (λ b. IsThere files found (bit n b)) (λ offset. (m, offset)) (range_with_len 0 (bits_of o.shape))
      (each-below (λ offset. IsThere files found (bit n (m, offset))) (bits_of o.shape)
      (λ d below. record { owner = i; placed = placed; object = o; has = has; inside = below }))

  pub of-instance : (n : ℕ) (i : Instance) → slice_get found n ≡ Some i → AllByRecursion (IsThere files found) (bits_of_instance files (n, i))
  of-instance n i placed =
      each-map (IsThere files found) (bit n) (bits_of_all (enumerate_from 0 (objects_at files i.entity)))
      (each-flat (λ b. IsThere files found (bit n b)) whole_bits (enumerate_from 0 (objects_at files i.entity))
      (each-numbered (λ o. AllByRecursion (λ b. IsThere files found (bit n b)) (whole_bits o)) (objects_at files i.entity) (λ m o has. of-object n i m o placed has)))

  pub bits-there : AllByRecursion (IsThere files found) (bits files found)
  bits-there =
      each-flat (IsThere files found) (bits_of_instance files) (enumerate_from 0 found)
      (each-numbered (λ i. AllByRecursion (IsThere files found) (bits_of_instance files i)) found of-instance)

-- ---- each that is there is one of the bits

same-self : (n : ℕ) → (n == n) ≡ true
same-self n = grind (arith, nat_tests)

and-true : (a b : Bool) → a ≡ true → b ≡ true → (a && b) ≡ true
and-true true b x y = y
and-true false b x y = absurd (cc)

is-itself : (b : Bit) → is_same b (bit b.instance (b.object, b.offset)) ≡ true
is-itself b =
    and-true ((b.instance == b.instance) && (b.object == b.object)) (b.offset == b.offset)
    (and-true (b.instance == b.instance) (b.object == b.object) (same-self b.instance) (same-self b.object)) (same-self b.offset)

same-number : (m n : ℕ) → (m == n) ≡ true → m ≡ n
same-number m n is = grind (arith, nat_tests)

pub both-true : (a b : Bool) → (a && b) ≡ true → (a ≡ true) × (b ≡ true)
both-true true b h = (refl, h)
both-true false b h = absurd (cc)

-- what is the same is one bit
pub same-bit : (a b : Bit) → is_same a b ≡ true → a ≡ b
same-bit a b is =
    let last = both-true ((a.instance == b.instance) && (a.object == b.object)) (a.offset == b.offset) is in
    let first = both-true (a.instance == b.instance) (a.object == b.object) last.0 in
    let p = same-number a.instance b.instance first.0 in
    let q = same-number a.object b.object first.1 in
    let r = same-number a.offset b.offset last.1 in
    λ i. record { instance = p i; object = q i; offset = r i }

pub is-among : (files : List Units) (found : List Instance) (b : Bit) → IsThere files found b → list_any (is_same b) (bits files found) ≡ true
is-among files found b there =
    let i = there.owner in
    let os = objects_at files i.entity in
    let o = there.object in
    let n = b.instance in
    any-flat (is_same b) (bits_of_instance files) (enumerate_from 0 found) n (n, i) (get-numbered found n i there.placed)
    (any-map (is_same b) (bit n) (bits_of_all (enumerate_from 0 os))
    ∙ any-flat (λ c. is_same b (bit n c)) whole_bits (enumerate_from 0 os) b.object (b.object, o) (get-numbered os b.object o there.has)
    (any-map (λ c. is_same b (bit n c)) (λ offset. (b.object, offset)) (range_with_len 0 (bits_of o.shape))
    ∙ any-below (λ offset. is_same b (bit n (b.object, offset))) (bits_of o.shape) b.offset there.inside (is-itself b)))
