-- The drivers of an instance of a cell: those of the bits that it drives.
use Rattle.std.proofs.Common.{◌≡◌, ℕ, zero, suc, ◌+◌, ◌<◌, ◌≤◌, List, [], ◌∷◌, ◌++◌, length, take, map, get_or, append-nil, refl, sym, ◌∙◌, ap, arith}
use Rattle.std.proofs.lemmas.List.{take_more}
use Rattle.std.proofs.lemmas.List.Elements.{filter_map-append}
use Rattle.std.proofs.lemmas.Option.{slice_get-map, slice_get_past}
use Rattle.std.specs.Prelude.{false, slice_get, Option, Some, None}
use Rattle.std.specs.List.{cons_option, filter_map, range_with_len}
use Rattle.std.specs.Option.{option_and_then, option_map, option_map_or}
use Rattle.vital_nodes.specs.declared.unit.Role.{Role}
use Rattle.vital_nodes.specs.declared.unit.Role.TheVariants as role
use Rattle.vital_nodes.specs.declared.unit.Units.{Units}
use Rattle.vital_instances.specs.declared.instance.Instance.{Instance}
use Rattle.vital_instances.specs.Units.{Unit, unit_at}
use Rattle.vital_connections.specs.Objects.{Object}
use Rattle.vital_netlist.specs.Cells.{is_cell, is_lib}
use Rattle.vital_netlist.specs.declared.design_lists.DesignDriver.{DesignDriver}
use Rattle.vital_netlist.specs.DesignDrivers.{driven_bits}
use Rattle.vital_netlist.specs.Elaboration.{default_of, design_driver, driver_with}
use Rattle.vital_netlist.specs.declared.bit.Bit.{Bit}
use Rattle.vital_netlist.specs.Bits.{bit, object_of}
use Rattle.vital_netlist.specs.Nets.{signal_number}
use Rattle.vital_netlist.specs.DesignObjects.{driven_as, driven_at, objects_at}
use Rattle.vital_netlist.specs.Wiring.{driver_at, driver_of, drivers, single_bits, wires}
use Rattle.vital_netlist.proofs.BitLemmas.{HaveSignals, in-step}
use Rattle.vital_nodes.proofs.Lists.{turn-behind}

-- ---- the bit of a port or signal, by its number

range-get : {A : Type 0} (xs : List A) (a n : ℕ) → slice_get (range_with_len a (length xs)) n ≡ option_map (λ x. a + n) (slice_get xs n)
range-get [] a n = refl
range-get (x ∷ xs) a zero =
    let sum : a ≡ a + 0 = omega arith in
    ap Some sum
range-get (x ∷ xs) a (suc n) =
    let sum : a + 1 + n ≡ a + suc n = omega arith in
    range-get xs (a + 1) n ∙ ap (λ m. option_map (λ y. m) (slice_get xs n)) sum

single-get : (os : List Object) (k n : ℕ) → slice_get (single_bits k (length os)) n ≡ option_map (λ o. bit k (n, 0)) (slice_get os n)
single-get os k n =
    let sum : 0 + n ≡ n = omega arith in
    slice_get-map (λ m. bit k (m, 0)) (range_with_len 0 (length os)) n
    ∙ ap (option_map (λ m. bit k (m, 0))) (range-get os 0 n ∙ ap (λ m. option_map (λ o. m) (slice_get os n)) sum)
    ∙ twice (slice_get os n)
  where
    twice : (p : Option Object) → option_map (λ m. bit k (m, 0)) (option_map (λ o. n) p) ≡ option_map (λ o. bit k (n, 0)) p
    twice None = refl
    twice (Some o) = refl

-- ---- its driver

driver-there : (os : List Object) (n : ℕ) (o : Object) (signal : Option ℕ) → slice_get os n ≡ Some o → option_map (driver_of os n) signal ≡ option_map (driver_with o) signal
driver-there os n o None at = refl
driver-there os n o (Some signal) at = ap (λ p. Some (record { signal = signal; initial = default_of (option_and_then (λ (q : Object). q.default) p) })) at

driver-by : (os : List Object) (n : ℕ) (b : Bit) (signal : Bit → Option ℕ) (p : Option Object) → slice_get os n ≡ p → option_map (driver_of os n) (option_and_then signal (option_map (λ o. b) p)) ≡ option_and_then (λ o. option_map (driver_with o) (signal b)) p
driver-by os n b signal None at = refl
driver-by os n b signal (Some o) at = driver-there os n o (signal b) at

one-driver : (files : List Units) (is : List Instance) (k : ℕ) (i : Instance) (n : ℕ) → slice_get is k ≡ Some i → HaveSignals files is (single_bits k (length (objects_at files i.entity))) → driver_at (objects_at files i.entity) (wires files is k (length (objects_at files i.entity))) n ≡ design_driver files is (bit k (n, 0))
one-driver files is k i n at all =
    let os = objects_at files i.entity in
    let b = bit k (n, 0) in
    let signal = signal_number files is in
    let here : object_of files is b ≡ slice_get os n = ap (option_and_then (λ (j : Instance). slice_get (objects_at files j.entity) n)) at in
    ap (option_map (driver_of os n)) (in-step signal (single_bits k (length os)) n all ∙ ap (option_and_then signal) (single-get os k n))
    ∙ driver-by os n b signal (slice_get os n) refl
    ∙ sym (ap (option_and_then (λ (o : Object). option_map (driver_with o) (signal b))) here)

-- ---- the drivers of all that are driven

mapped : {A B C : Type 0} (f : A → Option C) (g : B → Option C) (h : A → B) (xs : List A) → ((x : A) → f x ≡ g (h x)) → filter_map f xs ≡ filter_map g (map h xs)
mapped f g h [] same = refl
mapped f g h (x ∷ xs) same = ap (λ o. cons_option o (filter_map f xs)) (same x) ∙ ap (cons_option (g (h x))) (mapped f g h xs same)

pub cell-drivers : (files : List Units) (is : List Instance) (k : ℕ) (i : Instance) → slice_get is k ≡ Some i → HaveSignals files is (single_bits k (length (objects_at files i.entity))) → drivers (objects_at files i.entity) (wires files is k (length (objects_at files i.entity))) (driven_at files i.entity) ≡ filter_map (design_driver files is) (driven_bits files (k, i))
cell-drivers files is k i at all =
    mapped (driver_at (objects_at files i.entity) (wires files is k (length (objects_at files i.entity)))) (design_driver files is) (λ n. bit k (n, 0)) (driven_at files i.entity) (λ n. one-driver files is k i n at all)

-- ---- netlist units drive nothing

driven-nothing : (files : List Units) (o : Option Unit) → option_map_or (λ (u : Unit). is_lib u.role) o false ≡ false → option_map_or (λ (u : Unit). driven_as files u u.role) o [] ≡ []
driven-nothing files None net = refl
driven-nothing files (Some u) net = by_role u.role net
  where
    by_role : (r : Role) → is_lib r ≡ false → driven_as files u r ≡ []
    by_role role.Lib lib = absurd (cc)
    by_role role.Net lib = refl

pub net-drivers : (files : List Units) (is : List Instance) (k : ℕ) (i : Instance) → is_cell files i ≡ false → filter_map (design_driver files is) (driven_bits files (k, i)) ≡ []
net-drivers files is k i net = ap (λ ns. filter_map (design_driver files is) (map (λ n. bit k (n, 0)) ns)) (driven-nothing files (unit_at files i.entity) net)

-- ---- one driven port or signal more

pub driver-turn : (os : List Object) (ws ns : List ℕ) (k d : ℕ) (first now new : List DesignDriver) → k < length ns → now ≡ first ++ drivers os ws (take k ns) → new ≡ now ++ drivers os ws (get_or ns k d ∷ []) → new ≡ first ++ drivers os ws (take (k + 1) ns)
driver-turn os ws ns k d first now new there before put =
    turn-behind first (drivers os ws (take k ns)) (drivers os ws (get_or ns k d ∷ [])) (drivers os ws (get_or ns k d ∷ [])) (drivers os ws (take (k + 1) ns)) now new put before refl
    (ap (drivers os ws) (take_more ns k d there) ∙ filter_map-append (driver_at os ws) (take k ns) (get_or ns k d ∷ []))

pub no-driver : (os : List Object) (ws : List ℕ) (n : ℕ) (now : List DesignDriver) → length ws ≤ n → now ≡ now ++ drivers os ws (n ∷ [])
no-driver os ws n now past =
    sym (ap (λ o. now ++ cons_option (option_map (driver_of os n) o) []) (slice_get_past ws n past) ∙ append-nil now)
