-- How many drivers a signal has, and the first signal that has two.
use Rattle.std.proofs.Common.{◌≡◌, ℕ, zero, suc, ◌+◌, ◌<◌, ◌≤◌, true, false, List, [], ◌∷◌, ◌++◌, length, take, map, get_or, refl, sym, subst, ◌∙◌, ap, arith}
use Rattle.std.proofs.lemmas.Bool.{false≢true}
use Rattle.std.proofs.lemmas.Bool.Decides.{nat_tests}
use Rattle.std.proofs.lemmas.List.{length-append, length-map, take_all}
use Rattle.std.proofs.lemmas.List.Folds.{find-append}
use Rattle.std.proofs.lemmas.List.FromFn.{get_or-map-range_with_len, length-enumerate_from, length-map-range_with_len}
use Rattle.std.proofs.lemmas.List.Quantifiers.{position-Some}
use Rattle.std.proofs.lemmas.List.Sums.{sum_by-cons}
use Rattle.std.specs.Prelude.{Bool, cond, nat_eq, ◌==◌, IsSome, slice_get, Option, Some, None}
use Rattle.std.specs.List.{AllByRecursion, cons_option, count_by, enumerate_from, filter_map, find, flat_map, range_with_len}
use Rattle.std.specs.Option.{option_and_then, option_map, option_map_or, option_or}
use Rattle.std.specs.Str.{bytes_eq}
use Rattle.vital_nodes.specs.declared.unit.Role.{Role}
use Rattle.vital_nodes.specs.declared.unit.Role.TheVariants as role
use Rattle.vital_nodes.specs.declared.unit.Units.{Units}
use Rattle.vital_objects.specs.declared.port.Port.{Port as Port'}
use Rattle.vital_objects.specs.declared.signal.Signal.{Signal as Signal'}
use Rattle.vital_instances.specs.declared.instance.Instance.{Instance}
use Rattle.vital_instances.specs.Units.{Unit, unit_at}
use Rattle.vital_connections.specs.Objects.{Object}
use Rattle.vital_typed_cells.specs.Bits.{names_of, number_of}
use Rattle.vital_typed_cells.specs.declared.typed_cell.TypedCell.{TypedCell}
use Rattle.vital_netlist.specs.Cells.{tree_of}
use Rattle.vital_netlist.specs.CellDrivers.{driven}
use Rattle.vital_netlist.specs.CellObjects.{object_of_internal, object_of_port, objects_of_cell}
use Rattle.vital_netlist.specs.declared.design_lists.DesignDriver.{DesignDriver}
use Rattle.vital_netlist.specs.DesignDrivers.{all_driven_bits, driven_bits, driver_count, drives, has_two_with, is_driven_twice}
use Rattle.vital_netlist.specs.Elaboration.{design_driver, driven_twice, driver_with, fault_of_drivers}
use Rattle.vital_netlist.specs.declared.bit.Bit.{Bit}
use Rattle.vital_netlist.specs.Bits.{bit, object_of}
use Rattle.vital_netlist.specs.Nets.{signal_number, signals}
use Rattle.vital_netlist.specs.DesignObjects.{driven_as, driven_at, objects_as, objects_at, objects_in}
use Rattle.vital_netlist.proofs.ListLemmas.{StandsAt, all-stand, enumerated-at, first-stands, others-stand}
use Rattle.vital_netlist.proofs.NumberLemmas.{same-number}
use Rattle.vital_nodes.proofs.Lists.{take-one}

-- ---- what is driven is there

name-there : (names : List (List ℕ)) (name : List ℕ) (o : Option ℕ) (ns : List ℕ) → number_of names name ≡ o → AllByRecursion (λ n. n < length names) ns → AllByRecursion (λ n. n < length names) (cons_option o ns)
name-there names name None ns is all = all
name-there names name (Some n) ns is all = ((position-Some (λ m. bytes_eq m name) names n [] is).0, all)

names-there : (names found : List (List ℕ)) → AllByRecursion (λ n. n < length names) (filter_map (number_of names) found)
names-there names [] = tt
names-there names (name ∷ found) = name-there names name (number_of names name) (filter_map (number_of names) found) refl (names-there names found)

as-many : (c : TypedCell) → length (names_of c.ports c.signals) ≡ length (objects_of_cell c)
as-many c =
    let ports = map (λ (p : Port'). p.name) c.ports in
    let signals = map (λ (s : Signal'). s.name) c.signals in
    length-append ports signals
    ∙ ap (λ n. n + length signals) (length-map c.ports (λ (p : Port'). p.name) ∙ sym (length-map c.ports (object_of_port c.packages)))
    ∙ ap (λ n. length (map (object_of_port c.packages) c.ports) + n) (length-map c.signals (λ (s : Signal'). s.name) ∙ sym (length-map c.signals object_of_internal))
    ∙ sym (length-append (map (object_of_port c.packages) c.ports) (map object_of_internal c.signals))

driven-within : (files : List Units) (n : ℕ) → AllByRecursion (λ k. k < length (objects_at files n)) (driven_at files n)
driven-within files n = by_unit (unit_at files n)
  where
    by_role : (u : Unit) (r : Role) → AllByRecursion (λ k. k < length (objects_as files u r)) (driven_as files u r)
    by_role u role.Net = tt
    by_role u role.Lib =
        let c = tree_of files u in
        subst (λ m. AllByRecursion (λ k. k < m) (filter_map (number_of (names_of c.ports c.signals)) (driven c))) (as-many c) (names-there (names_of c.ports c.signals) (driven c))

    by_unit : (o : Option Unit) → AllByRecursion (λ k. k < length (option_map_or (objects_in files) o [])) (option_map_or (λ (u : Unit). driven_as files u u.role) o [])
    by_unit None = tt
    by_unit (Some u) = by_role u u.role

-- Each is a bit of a port or signal.
abbrev AreThere : List Units → List Instance → List Bit → Type 0
AreThere files is bs = AllByRecursion (λ b. IsSome (object_of files is b)) bs

there-some : {A : Type 0} (o : Option A) (xs : List A) (k : ℕ) → o ≡ slice_get xs k → k < length xs → IsSome o
there-some o [] k is within = absurd (omega arith)
there-some (Some y) (x ∷ xs) k is within = refl
there-some None (x ∷ xs) zero is within = absurd (cc)
there-some None (x ∷ xs) (suc k) is within = there-some None xs k is (omega arith)

bits-there : (files : List Units) (is : List Instance) (k : ℕ) (i : Instance) (ns : List ℕ) → slice_get is k ≡ Some i → AllByRecursion (λ n. n < length (objects_at files i.entity)) ns → AreThere files is (map (λ n. bit k (n, 0)) ns)
bits-there files is k i [] at all = tt
bits-there files is k i (n ∷ ns) at all = (
  there-some (object_of files is (bit k (n, 0))) (objects_at files i.entity) n (ap (option_and_then (λ (j : Instance). slice_get (objects_at files j.entity) n)) at) all.0,
  bits-there files is k i ns at all.1,
)

all-append : {A : Type 0} (P : A → Type 0) (xs ys : List A) → AllByRecursion P xs → AllByRecursion P ys → AllByRecursion P (xs ++ ys)
all-append P [] ys first others = others
all-append P (x ∷ xs) ys first others = (first.0, all-append P xs ys first.1 others)

all-there-from : (files : List Units) (is : List Instance) (m : ℕ) (rest : List Instance) → StandsAt rest is m → AreThere files is (flat_map (driven_bits files) (enumerate_from m rest))
all-there-from files is m [] stands = tt
all-there-from files is m (i ∷ rest) stands =
    all-append (λ b. IsSome (object_of files is b)) (driven_bits files (m, i)) (flat_map (driven_bits files) (enumerate_from (m + 1) rest))
    (bits-there files is m i (driven_at files i.entity) (first-stands i rest is m stands) (driven-within files i.entity))
    (all-there-from files is (m + 1) rest (others-stand i rest is m stands))

all-there : (files : List Units) (is : List Instance) → AreThere files is (all_driven_bits files is)
all-there files is = all-there-from files is 0 is (all-stand is)

-- ---- how many drivers a signal has

same-back : (m n : ℕ) (b c : Bool) → nat_eq m n ≡ b → nat_eq n m ≡ c → b ≡ c
same-back m n true true ahead back = refl
same-back m n false false ahead back = refl
same-back m n true false ahead back =
    let same : m ≡ n = same-number m n ahead in
    absurd (grind (arith, nat_tests))
same-back m n false true ahead back =
    let same : n ≡ m = same-number n m back in
    absurd (grind (arith, nat_tests))

of-signal : (signal : ℕ) (o : Object) (number : Option ℕ) → option_map_or (λ (d : DesignDriver). d.signal == signal) (option_map (driver_with o) number) false ≡ option_map_or (nat_eq signal) number false
of-signal signal o None = refl
of-signal signal o (Some n) = same-back n signal (nat_eq n signal) (nat_eq signal n) refl refl

drives-as : (files : List Units) (is : List Instance) (signal : ℕ) (b : Bit) → IsSome (object_of files is b) → option_map_or (λ (d : DesignDriver). d.signal == signal) (design_driver files is b) false ≡ drives files is signal b
drives-as files is signal b some = by_object (object_of files is b) some
  where
    by_object : (o : Option Object) → IsSome o → option_map_or (λ (d : DesignDriver). d.signal == signal) (option_and_then (λ p. option_map (driver_with p) (signal_number files is b)) o) false ≡ drives files is signal b
    by_object None none = absurd (false≢true none)
    by_object (Some o) there = of-signal signal o (signal_number files is b)

count-made : {A B : Type 0} (make : A → Option B) (p : B → Bool) (q : A → Bool) (P : A → Type 0) (xs : List A) → ((x : A) → P x → option_map_or p (make x) false ≡ q x) → AllByRecursion P xs → count_by p (filter_map make xs) ≡ count_by q xs
count-made make p q P [] same all = refl
count-made {A} {B} make p q P (x ∷ xs) same all =
    one (make x) (q x) (same x all.0) (count-made make p q P xs same all.1) ∙ sym (sum_by-cons (λ y. cond (q y) 1 0) x xs)
  where
    one : (o : Option B) (b : Bool) → option_map_or p o false ≡ b → count_by p (filter_map make xs) ≡ count_by q xs → count_by p (cons_option o (filter_map make xs)) ≡ cond b 1 0 + count_by q xs
    one None b is others =
        let none : count_by q xs ≡ cond false 1 0 + count_by q xs = omega arith in
        others ∙ none ∙ ap (λ c. cond c 1 0 + count_by q xs) is
    one (Some y) b is others =
        sum_by-cons (λ z. cond (p z) 1 0) y (filter_map make xs)
        ∙ ap (λ c. cond c 1 0 + count_by p (filter_map make xs)) is
        ∙ ap (λ n. cond b 1 0 + n) others

count-is : (files : List Units) (is : List Instance) (signal : ℕ) → count_by (λ (d : DesignDriver). d.signal == signal) (filter_map (design_driver files is) (all_driven_bits files is)) ≡ driver_count files is signal
count-is files is signal =
    count-made (design_driver files is) (λ (d : DesignDriver). d.signal == signal) (drives files is signal) (λ b. IsSome (object_of files is b)) (all_driven_bits files is)
    (λ b some. drives-as files is signal b some) (all-there files is)

-- there is a count for each signal
pub count-there : (bs items all : List Bit) (found : List DesignDriver) (counts : List ℕ) (k : ℕ) → bs ≡ all → items ≡ all → counts ≡ map (λ n. count_by (λ driver. driver.signal == n) found) (range_with_len 0 (length bs)) → k < length items → k < length counts
count-there bs items all found counts k same listed counted there =
    let as-many' : length counts ≡ length bs =
    ap (λ (ns : List ℕ). length ns) counted ∙ length-map-range_with_len (λ n. count_by (λ (driver : DesignDriver). driver.signal == n) found) 0 (length bs) in
    let first : length bs ≡ length all = ap (λ (cs : List Bit). length cs) same in
    let second : length items ≡ length all = ap (λ (cs : List Bit). length cs) listed in
    omega arith

pub count-at : (files : List Units) (is : List Instance) (bs items all : List Bit) (found : List DesignDriver) (counts : List ℕ) (k count : ℕ) → found ≡ filter_map (design_driver files is) (all_driven_bits files is) → bs ≡ all → items ≡ all → counts ≡ map (λ n. count_by (λ driver. driver.signal == n) found) (range_with_len 0 (length bs)) → k < length items → count ≡ get_or counts k count → count ≡ driver_count files is k
count-at files is bs items all found counts k count drivers same listed counted there at =
    let first : length bs ≡ length all = ap (λ (cs : List Bit). length cs) same in
    let second : length items ≡ length all = ap (λ (cs : List Bit). length cs) listed in
    at
    ∙ ap (λ (ns : List ℕ). get_or ns k count) counted
    ∙ get_or-map-range_with_len (λ n. count_by (λ (driver : DesignDriver). driver.signal == n) found) 0 (length bs) k k count (omega arith) (omega arith)
    ∙ ap (count_by (λ (driver : DesignDriver). driver.signal == k)) drivers
    ∙ count-is files is k

-- ---- the first signal that has two

find-past : {A : Type 0} (p : A → Bool) (xs : List A) (k : ℕ) (x : A) → k < length xs → x ≡ get_or xs k x → find p (take k xs) ≡ None → p x ≡ false → find p (take (k + 1) xs) ≡ None
find-past {A} p xs k x there at none other =
    ap (find p) (take-one xs k x there at)
    ∙ find-append p (take k xs) (x ∷ [])
    ∙ ap (λ (o : Option A). option_or o (find p (x ∷ []))) none
    ∙ ap (λ b. cond b (Some x) None) other

find-here : {A : Type 0} (p : A → Bool) (xs : List A) (k : ℕ) (x : A) → k < length xs → x ≡ get_or xs k x → find p (take k xs) ≡ None → p x ≡ true → find p xs ≡ Some x
find-here p [] k x there at none one = absurd (omega arith)
find-here {A} p (y ∷ ys) zero x there at none one = ap (λ (z : A). cond (p z) (Some z) (find p ys)) (sym at) ∙ ap (λ b. cond b (Some x) (find p ys)) one
find-here {A} p (y ∷ ys) (suc k) x there at none one = by_test (p y) none (λ before. find-here p ys k x (omega arith) at before one)
  where
    by_test : (b : Bool) → cond b (Some y) (find p (take k ys)) ≡ None → (find p (take k ys) ≡ None → find p ys ≡ Some x) → cond b (Some y) (find p ys) ≡ Some x
    by_test true some others = absurd (cc)
    by_test false before others = others before

-- None of the first so many signals has two.
abbrev pub NoneBefore : List Units → List Instance → List Bit → ℕ → Type 0
NoneBefore files is all k = find (is_driven_twice files is) (take k (enumerate_from 0 all)) ≡ None

twice-by : (files : List Units) (is : List Instance) (k count : ℕ) (b : Bit) (answer : Bool) → count ≡ driver_count files is k → option_map_or (has_two_with count b) (object_of files is b) false ≡ answer → is_driven_twice files is (k, b) ≡ answer
twice-by files is k count b answer counted is' = sym (ap (λ n. option_map_or (has_two_with n b) (object_of files is b) false) counted) ∙ is'

within : (items all : List Bit) (k : ℕ) → items ≡ all → k < length items → k < length (enumerate_from 0 all)
within items all k listed there =
    let same : length items ≡ length all = ap (λ (bs : List Bit). length bs) listed in
    let numbered : length (enumerate_from 0 all) ≡ length all = length-enumerate_from 0 all in
    omega arith

number-at : (items all : List Bit) (k : ℕ) (b : Bit) → items ≡ all → k < length items → b ≡ get_or items k b → (k, b) ≡ get_or (enumerate_from 0 all) k (k, b)
number-at items all k b listed there at =
    enumerated-at all k b (subst (λ (bs : List Bit). k < length bs) listed there) (at ∙ ap (λ (bs : List Bit). get_or bs k b) listed)

-- this one has not
pub none-past : (files : List Units) (is : List Instance) (items all : List Bit) (k count : ℕ) (b : Bit) → items ≡ all → k < length items → b ≡ get_or items k b → count ≡ driver_count files is k → NoneBefore files is all k → option_map_or (has_two_with count b) (object_of files is b) false ≡ false → NoneBefore files is all (k + 1)
none-past files is items all k count b listed there at counted before one =
    find-past (is_driven_twice files is) (enumerate_from 0 all) k (k, b) (within items all k listed there) (number-at items all k b listed there at) before
    (twice-by files is k count b false counted one)

-- this one has
pub fault-here : (files : List Units) (is : List Instance) (items all : List Bit) (k count : ℕ) (b : Bit) → all ≡ signals files is → items ≡ all → k < length items → b ≡ get_or items k b → count ≡ driver_count files is k → NoneBefore files is all k → option_map_or (has_two_with count b) (object_of files is b) false ≡ true → option_map driven_twice (object_of files is b) ≡ fault_of_drivers files is
fault-here files is items all k count b same listed there at counted before two =
    let here : find (is_driven_twice files is) (enumerate_from 0 all) ≡ Some (k, b) =
    find-here (is_driven_twice files is) (enumerate_from 0 all) k (k, b) (within items all k listed there) (number-at items all k b listed there at) before
    (twice-by files is k count b true counted two) in
    sym (ap (λ (bs : List Bit). option_map driven_twice (option_and_then (λ (s : ℕ × Bit). object_of files is s.1) (find (is_driven_twice files is) (enumerate_from 0 bs)))) (sym same)
    ∙ ap (λ o. option_map driven_twice (option_and_then (λ (s : ℕ × Bit). object_of files is s.1) o)) here)

-- none has
pub none-all : (files : List Units) (is : List Instance) (items all : List Bit) (k : ℕ) → all ≡ signals files is → items ≡ all → length items ≤ k → NoneBefore files is all k → fault_of_drivers files is ≡ None
none-all files is items all k same listed whole before =
    let few : length (enumerate_from 0 all) ≤ k =
    subst (λ n. n ≤ k) (sym (length-enumerate_from 0 all)) (subst (λ (bs : List Bit). length bs ≤ k) listed whole) in
    let none : find (is_driven_twice files is) (enumerate_from 0 all) ≡ None = sym (ap (find (is_driven_twice files is)) (take_all k (enumerate_from 0 all) few)) ∙ before in
    ap (λ (bs : List Bit). option_map driven_twice (option_and_then (λ (s : ℕ × Bit). object_of files is s.1) (find (is_driven_twice files is) (enumerate_from 0 bs)))) (sym same)
    ∙ ap (λ o. option_map driven_twice (option_and_then (λ (s : ℕ × Bit). object_of files is s.1) o)) none
