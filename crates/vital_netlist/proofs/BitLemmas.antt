-- The bits of an instance of a cell: each of its ports and internal signals is one bit, and has a signal.
use Rattle.std.proofs.Common.{◌≡◌, ℕ, zero, suc, ◌+◌, true, List, [], ◌∷◌, ◌++◌, length, map, refl, sym, subst, ◌∙◌, ap, arith}
use Rattle.std.proofs.lemmas.Bool.{false≢true}
use Rattle.std.proofs.lemmas.List.Elements.{recursion_from_All}
use Rattle.std.specs.Prelude.{All, IsSome, slice_get, Option, Some, None}
use Rattle.std.specs.List.{AllByRecursion, cons_option, enumerate_from, filter_map, flat_map, range_with_len}
use Rattle.std.specs.Option.{option_and_then, option_map_or}
use Rattle.vital_nodes.specs.declared.unit.Role.TheVariants as role
use Rattle.vital_nodes.specs.declared.unit.Units.{Units}
use Rattle.vital_objects.specs.declared.port.Port.{Port as Port'}
use Rattle.vital_objects.specs.declared.signal.Signal.{Signal as Signal'}
use Rattle.vital_instances.specs.declared.instance.Instance.{Instance}
use Rattle.vital_instances.specs.Units.{Unit, unit_at}
use Rattle.vital_connections.specs.Objects.{Object, bits_of_all}
use Rattle.vital_structure.specs.Shapes.{Scalar, bits_of}
use Rattle.vital_typed_cells.specs.declared.typed_cell.TypedCell.{TypedCell}
use Rattle.vital_netlist.specs.Cells.{is_cell, tree_of}
use Rattle.vital_netlist.specs.CellObjects.{object_of_internal, object_of_port, objects_of_cell}
use Rattle.vital_netlist.specs.declared.bit.Bit.{Bit}
use Rattle.vital_netlist.specs.Bits.{bit, bits, bits_of_instance}
use Rattle.vital_netlist.specs.Nets.{signal_number}
use Rattle.vital_netlist.specs.DesignObjects.{objects_as, objects_at, objects_in}
use Rattle.vital_netlist.specs.Wiring.{single_bits}
use Rattle.vital_netlist.proofs.NumberLemmas.{cell-unit}

-- ---- each port and internal signal is one bit

-- Where each is one bit, these are all bits.
abbrev AreSingle : List Object → Type 0
AreSingle os = (m : ℕ) → bits_of_all (enumerate_from m os) ≡ map (λ n. (n, 0)) (range_with_len m (length os))

single-nil : AreSingle []
single-nil m = refl

single-cons : (o : Object) (os : List Object) → o.shape ≡ Scalar → AreSingle os → AreSingle (o ∷ os)
single-cons o os one others m =
    ap (λ count. map (λ offset. (m, offset)) (range_with_len 0 count) ++ bits_of_all (enumerate_from (m + 1) os)) (ap bits_of one)
    ∙ ap (λ bs. (m, 0) ∷ bs) (others (m + 1))

single-signals : (ss : List Signal') → AreSingle (map object_of_internal ss)
single-signals [] = single-nil
single-signals (s ∷ ss) = single-cons (object_of_internal s) (map object_of_internal ss) refl (single-signals ss)

single-objects : (c : TypedCell) (ps : List Port') → AreSingle (map (object_of_port c.packages) ps ++ map object_of_internal c.signals)
single-objects c [] = single-signals c.signals
single-objects c (p ∷ ps) = single-cons (object_of_port c.packages p) (map (object_of_port c.packages) ps ++ map object_of_internal c.signals) refl (single-objects c ps)

-- the ports and internal signals of an instance of a cell are those of its unit
cell-objects : (files : List Units) (i : Instance) (u : Unit) → unit_at files i.entity ≡ Some u → u.role ≡ role.Lib → objects_at files i.entity ≡ objects_of_cell (tree_of files u)
cell-objects files i u at lib = ap (λ o. option_map_or (objects_in files) o []) at ∙ ap (objects_as files u) lib

map-map : {A B C : Type 0} (g : B → C) (f : A → B) (xs : List A) → map g (map f xs) ≡ map (λ x. g (f x)) xs
map-map g f [] = refl
map-map g f (x ∷ xs) = ap (λ ys. g (f x) ∷ ys) (map-map g f xs)

pub cell-bits : (files : List Units) (k : ℕ) (i : Instance) → is_cell files i ≡ true → bits_of_instance files (k, i) ≡ single_bits k (length (objects_at files i.entity))
cell-bits files k i one =
    let unit = cell-unit files i one in
    let tree = tree_of files unit.0 in
    let same : objects_at files i.entity ≡ objects_of_cell tree = cell-objects files i unit.0 unit.1 unit.2 in
    ap (λ os. map (bit k) (bits_of_all (enumerate_from 0 os))) same
    ∙ ap (map (bit k)) (single-objects tree tree.ports 0)
    ∙ map-map (bit k) (λ n. (n, 0)) (range_with_len 0 (length (objects_of_cell tree)))
    ∙ sym (ap (λ os. single_bits k (length os)) same)

-- ---- each bit has a signal, so the signals are in step with the bits

-- Each has one.
abbrev pub HaveSignals : List Units → List Instance → List Bit → Type 0
HaveSignals files is bs = AllByRecursion (λ b. IsSome (signal_number files is b)) bs

front : {A : Type 0} (P : A → Type 0) (xs ys : List A) → AllByRecursion P (xs ++ ys) → AllByRecursion P xs
front P [] ys all = tt
front P (x ∷ xs) ys all = (all.0, front P xs ys all.1)

behind : {A : Type 0} (P : A → Type 0) (xs ys : List A) → AllByRecursion P (xs ++ ys) → AllByRecursion P ys
behind P [] ys all = all
behind P (x ∷ xs) ys all = behind P xs ys all.1

in-piece : (files : List Units) (P : Bit → Type 0) (is : List Instance) (m k : ℕ) (i : Instance) → slice_get is k ≡ Some i → AllByRecursion P (flat_map (bits_of_instance files) (enumerate_from m is)) → AllByRecursion P (bits_of_instance files (m + k, i))
in-piece files P [] m k i at all = absurd (cc)
in-piece files P (j ∷ is) m zero i at all =
    let same : j ≡ i = cc in
    let sum : m ≡ m + 0 = omega arith in
    subst (λ n. AllByRecursion P (bits_of_instance files (n, i))) sum
    (subst (λ e. AllByRecursion P (bits_of_instance files (m, e))) same (front P (bits_of_instance files (m, j)) (flat_map (bits_of_instance files) (enumerate_from (m + 1) is)) all))
in-piece files P (j ∷ is) m (suc k) i at all =
    let sum : m + 1 + k ≡ m + suc k = omega arith in
    subst (λ n. AllByRecursion P (bits_of_instance files (n, i))) sum
    (in-piece files P is (m + 1) k i at (behind P (bits_of_instance files (m, j)) (flat_map (bits_of_instance files) (enumerate_from (m + 1) is)) all))

pub piece-signals : (files : List Units) (is : List Instance) (k : ℕ) (i : Instance) → slice_get is k ≡ Some i → All (λ b. IsSome (signal_number files is b)) (bits files is) → HaveSignals files is (bits_of_instance files (k, i))
piece-signals files is k i at all =
    let sum : 0 + k ≡ k = omega arith in
    let has = λ (b : Bit). IsSome (signal_number files is b) in
    subst (λ n. AllByRecursion has (bits_of_instance files (n, i))) sum (in-piece files has is 0 k i at (recursion_from_All has (bits files is) all))

-- what is made of each, where something is made of all
pub in-step : {A B : Type 0} (f : A → Option B) (xs : List A) (n : ℕ) → AllByRecursion (λ x. IsSome (f x)) xs → slice_get (filter_map f xs) n ≡ option_and_then f (slice_get xs n)
in-step f [] n all = refl
in-step {A} {B} f (x ∷ xs) n all = by_first (f x) refl all.0 n (λ m. in-step f xs m all.1)
  where
    by_first : (o : Option B) → f x ≡ o → IsSome o → (m : ℕ) → ((k : ℕ) → slice_get (filter_map f xs) k ≡ option_and_then f (slice_get xs k)) → slice_get (cons_option o (filter_map f xs)) m ≡ option_and_then f (slice_get (x ∷ xs) m)
    by_first None is some m others = absurd (false≢true some)
    by_first (Some y) is some zero others = sym is
    by_first (Some y) is some (suc m) others = others m
