-- The bits of the ports of the top are the first signals of a design, and differ in name.
use Rattle.std.proofs.Common.{◌≡◌, ℕ, zero, suc, ◌+◌, List, [], ◌∷◌, ◌++◌, length, map, take, drop, true, false, refl, sym, ap, subst, ◌∙◌, append_assoc, append-nil, arith}
use Rattle.std.specs.Prelude.{Bool, cond, not, is_some, filter, All, Option, Some, None, IsSome}
use Rattle.std.specs.List.{AllByRecursion, IsDistinct, cons_option, enumerate_from, filter_map, flat_map, range_with_len, slice_get}
use Rattle.std.specs.Option.{option_and_then, option_map, option_map_or}
use Rattle.std.specs.Str.{bytes_eq}
use Rattle.std.proofs.lemmas.Grind.{flat_map-append}
use Rattle.std.proofs.lemmas.List.{map-append}
use Rattle.std.proofs.lemmas.List.Elements.{All-from_recursion, filter_map-append}
use Rattle.std.proofs.lemmas.Option.{none-some, same_Some}
use Rattle.vital_base.specs.declared.ports.PortBit.{PortBit}
use Rattle.vital_connections.specs.Objects.{Object, bits_of_all, index_at, whole_bits}
use Rattle.vital_netlist.specs.Designs.{DesignSignal}
use Rattle.vital_netlist.specs.Elaboration.{default_of, design_of, design_signal, is_input, port_bit, port_bit_in, signal_with}
use Rattle.vital_logic.specs.Levels.{byte_of}
use Rattle.vital_netlist.specs.Names.{bit_name}
use Rattle.vital_netlist.specs.Soundness.{IsLevelByte, signal_bit_name}
use Rattle.vital_instances.specs.declared.instance.Instance.{Instance}
use Rattle.vital_instances.specs.declared.instance.Position.{Position}
use Rattle.vital_instances.specs.Designs.{IsUnderTop}
use Rattle.vital_netlist.specs.declared.bit.Bit.{Bit}
use Rattle.vital_netlist.specs.Bits.{bit, bits, bits_of_instance, object_of}
use Rattle.vital_netlist.specs.Nets.{bit_above, bit_in, connection_at, is_own, signals}
use Rattle.vital_netlist.specs.DesignObjects.{objects_at}
use Rattle.vital_nodes.specs.declared.decl.Mode.{Mode}
use Rattle.vital_nodes.specs.declared.unit.Units.{Units}
use Rattle.vital_structure.specs.Shapes.{bits_of}
use Rattle.vital_typed_cells.proofs.Apart.{distinct}
use Rattle.vital_netlist.proofs.Lists.{each-below, each-enumerated, each-flat, each-get, each-left, each-map, each-numbered}
use Rattle.vital_netlist.proofs.Nets.{within-get}
use Rattle.vital_netlist.proofs.PortNames.{bits-apart, names-of}
use Rattle.vital_netlist.proofs.UnitFacts.{Known}
use Rattle.vital_netlist.proofs.UnitNames.{IsObjectFormed, Read, objects-named}

-- ---- lists

get-left : {A : Type 0} (xs ys : List A) (k : ℕ) (x : A) → slice_get xs k ≡ Some x → slice_get (xs ++ ys) k ≡ Some x
get-left [] ys k x is = absurd (none-some x is)
get-left (z ∷ xs) ys zero x is = is
get-left (z ∷ xs) ys (suc k) x is = get-left xs ys k x is

get-right : {A : Type 0} (xs ys : List A) (k m : ℕ) (x : A) → m ≡ length xs + k → slice_get ys k ≡ Some x → slice_get (xs ++ ys) m ≡ Some x
get-right [] ys k m x same is = let here : m ≡ k = omega (arith, same) in ap (slice_get ys) here ∙ is
get-right (z ∷ xs) ys k zero x same is = absurd (omega (arith, same))
get-right (z ∷ xs) ys k (suc m) x same is = get-right xs ys k m x (omega (arith, same)) is

enumerate-append : {A : Type 0} (n : ℕ) (xs ys : List A) → enumerate_from n (xs ++ ys) ≡ enumerate_from n xs ++ enumerate_from (n + length xs) ys
enumerate-append n [] ys = let same : n ≡ n + 0 = omega arith in ap (λ (m : ℕ). enumerate_from m ys) same
enumerate-append {A} n (x ∷ xs) ys =
    let same : (n + 1) + length xs ≡ n + suc (length xs) = omega arith in
    ap (λ (l : List (ℕ × A)). (n, x) ∷ l) (enumerate-append (n + 1) xs ys ∙ ap (λ (m : ℕ). enumerate_from (n + 1) xs ++ enumerate_from m ys) same)

head-numbered : {A : Type 0} (xs : List A) (x : A) → slice_get xs 0 ≡ Some x → enumerate_from 0 xs ≡ (0, x) ∷ enumerate_from (0 + 1) (drop 1 xs)
head-numbered [] x is = absurd (none-some x is)
head-numbered {A} (y ∷ ys) x is = ap (λ (z : A). (0, z) ∷ enumerate_from (0 + 1) ys) (same_Some y x is)

take-first : {A : Type 0} (n : ℕ) (xs ys : List A) → n ≡ length xs → take n (xs ++ ys) ≡ xs
take-first zero [] ys same = refl
take-first zero (x ∷ xs) ys same = absurd (omega (arith, same))
take-first (suc n) [] ys same = absurd (omega (arith, same))
take-first (suc n) (x ∷ xs) ys same = ap (λ l. x ∷ l) (take-first n xs ys (omega (arith, same)))

filter-first : {A : Type 0} (test : A → Bool) (xs ys : List A) → AllByRecursion (λ x. test x ≡ true) xs → filter test (xs ++ ys) ≡ xs ++ filter test ys
filter-first test [] ys all = refl
filter-first test (x ∷ xs) ys all = (λ i. cond (all.0 i) (x ∷ filter test (xs ++ ys)) (filter test (xs ++ ys))) ∙ ap (λ l. x ∷ l) (filter-first test xs ys all.1)

none-given : {A B : Type 0} (f : A → Option B) (xs : List A) → AllByRecursion (λ x. f x ≡ None) xs → filter_map f xs ≡ []
none-given f [] all = refl
none-given f (x ∷ xs) all = ap (λ o. cons_option o (filter_map f xs)) all.0 ∙ none-given f xs all.1

some-mode : (m : Option Mode) → IsSome m → (x : Mode) × (m ≡ Some x)
some-mode None is = absurd (cc)
some-mode (Some x) is = (x, refl)

no-position : (p : Option Position) → is_some p ≡ false → p ≡ None
no-position None is = refl
no-position (Some at) is = absurd (cc)

-- ---- bits of the top

abbrev SignalsOf : List Units → List Instance → List Bit → List DesignSignal
SignalsOf files found bs = filter_map (design_signal files found) bs

abbrev PortsOf : List Units → List Instance → List Bit → List PortBit
PortsOf files found bs = filter_map (port_bit files found) bs

record IsPortBit (files : List Units) (found : List Instance) (b : Bit) : Type 0 where
  pub object : Object
  pub is : object_of files found b ≡ Some object
  pub mode : Mode
  pub has : object.mode ≡ Some mode
  pub first : b.instance ≡ 0

record IsOther (files : List Units) (found : List Instance) (b : Bit) : Type 0 where
  pub object : Object
  pub is : object_of files found b ≡ Some object
  pub none : object.mode ≡ None
  pub first : b.instance ≡ 0

module _ (files : List Units) (found : List Instance) where
  port-is : (b : Bit) (p : IsPortBit files found b) → port_bit files found b ≡ Some (record { name = bit_name p.object.name (index_at p.object.shape b.offset); input = is_input p.mode; initial = byte_of (default_of p.object.default) })
  port-is b p = ap (λ (o : Option Object). option_and_then (λ (x : Object). port_bit_in b x x.mode) o) p.is ∙ ap (port_bit_in b p.object) p.has

  signal-is : (b : Bit) (p : IsPortBit files found b) → design_signal files found b ≡ Some (signal_with files found b p.object)
  signal-is b p = ap (option_map (signal_with files found b)) p.is

  no-port : (b : Bit) → IsOther files found b → port_bit files found b ≡ None
  no-port b p = ap (λ (o : Option Object). option_and_then (λ (x : Object). port_bit_in b x x.mode) o) p.is ∙ ap (port_bit_in b p.object) p.none

  no-ports : (bs : List Bit) → AllByRecursion (IsOther files found) bs → AllByRecursion (λ b. port_bit files found b ≡ None) bs
  no-ports [] all = tt
  no-ports (b ∷ bs) all = (no-port b all.0, no-ports bs all.1)

  same-length : (bs : List Bit) → AllByRecursion (IsPortBit files found) bs → length (PortsOf files found bs) ≡ length (SignalsOf files found bs)
  same-length [] all = refl
  same-length (b ∷ bs) all =
      ap (λ o. length (cons_option o (PortsOf files found bs))) (port-is b all.0) ∙ ap suc (same-length bs all.1) ∙ sym (ap (λ o. length (cons_option o (SignalsOf files found bs))) (signal-is b all.0))

  same-names : (bs : List Bit) → AllByRecursion (IsPortBit files found) bs → map (λ (p : PortBit). p.name) (PortsOf files found bs) ≡ map signal_bit_name (SignalsOf files found bs)
  same-names [] all = refl
  same-names (b ∷ bs) all =
      ap (λ o. map (λ (p : PortBit). p.name) (cons_option o (PortsOf files found bs))) (port-is b all.0)
      ∙ ap (λ (ns : List (List ℕ)). bit_name all.0.object.name (index_at all.0.object.shape b.offset) ∷ ns) (same-names bs all.1)
      ∙ sym (ap (λ o. map signal_bit_name (cons_option o (SignalsOf files found bs))) (signal-is b all.0))

  at-top : (bs : List Bit) → AllByRecursion (IsPortBit files found) bs → AllByRecursion (λ (s : DesignSignal). s.instance ≡ 0) (SignalsOf files found bs)
  at-top [] all = tt
  at-top (b ∷ bs) all =
      subst (λ (o : Option DesignSignal). AllByRecursion (λ (s : DesignSignal). s.instance ≡ 0) (cons_option o (SignalsOf files found bs))) (sym (signal-is b all.0)) (all.0.first, at-top bs all.1)

  have-levels : (bs : List Bit) → AllByRecursion (IsPortBit files found) bs → AllByRecursion (λ (p : PortBit). IsLevelByte p.initial) (PortsOf files found bs)
  have-levels [] all = tt
  have-levels (b ∷ bs) all =
      subst (λ (o : Option PortBit). AllByRecursion (λ (p : PortBit). IsLevelByte p.initial) (cons_option o (PortsOf files found bs))) (sym (port-is b all.0))
      ((default_of all.0.object.default, refl), have-levels bs all.1)

  -- ---- the names of all bits

  object-names : (m : ℕ) (o : Object) (mode : Mode) (a len : ℕ) → ((offset : ℕ) → object_of files found (bit 0 (m, offset)) ≡ Some o) → o.mode ≡ Some mode → map (λ (p : PortBit). p.name) (PortsOf files found (map (bit 0) (map (λ offset. (m, offset)) (range_with_len a len)))) ≡ map (λ offset. bit_name o.name (index_at o.shape offset)) (range_with_len a len)
  object-names m o mode a zero is has = refl
  object-names m o mode a (suc len) is has =
      let b = bit 0 (m, a) in
      let p : IsPortBit files found b = record { object = o; is = is a; mode = mode; has = has; first = refl } in
      ap (λ x. map (λ (p : PortBit). p.name) (cons_option x (PortsOf files found (map (bit 0) (map (λ offset. (m, offset)) (range_with_len (a + 1) len)))))) (port-is b p)
      ∙ ap (λ (ns : List (List ℕ)). bit_name o.name (index_at o.shape a) ∷ ns) (object-names m o mode (a + 1) len is has)

  all-names : (m : ℕ) (os : List Object) → ((k offset : ℕ) (o : Object) → slice_get os k ≡ Some o → object_of files found (bit 0 (m + k, offset)) ≡ Some o) → AllByRecursion (λ (o : Object). IsSome o.mode) os → map (λ (p : PortBit). p.name) (PortsOf files found (map (bit 0) (bits_of_all (enumerate_from m os)))) ≡ flat_map names-of os
  all-names m [] is modes = refl
  all-names m (o ∷ os) is modes =
      let first = whole_bits (m, o) in
      let rest = bits_of_all (enumerate_from (m + 1) os) in
      let mode = some-mode o.mode modes.0 in
      let here : m + 0 ≡ m = omega arith in
      let one = object-names m o mode.0 0 (bits_of o.shape) (λ offset. subst (λ (n : ℕ). object_of files found (bit 0 (n, offset)) ≡ Some o) here (is 0 offset o refl)) mode.1 in
      let others = all-names (m + 1) os (λ k offset x at. let same : m + suc k ≡ (m + 1) + k = omega arith in subst (λ (n : ℕ). object_of files found (bit 0 (n, offset)) ≡ Some x) same (is (suc k) offset x at)) modes.1 in
      ap (λ bs. map (λ (p : PortBit). p.name) (PortsOf files found bs)) (map-append (bit 0) first rest)
      ∙ ap (map (λ (p : PortBit). p.name)) (filter_map-append (port_bit files found) (map (bit 0) first) (map (bit 0) rest))
      ∙ map-append (λ (p : PortBit). p.name) (PortsOf files found (map (bit 0) first)) (PortsOf files found (map (bit 0) rest))
      ∙ (λ i. one i ++ others i)

-- ---- the ports of the design

pub record TopPorts (files : List Units) (found : List Instance) : Type 0 where
  pub first : map (λ (p : PortBit). p.name) (design_of files found).ports ≡ map signal_bit_name (take (length (design_of files found).ports) (design_of files found).signals)
  pub at_top : All (λ (s : DesignSignal). s.instance ≡ 0) (take (length (design_of files found).ports) (design_of files found).signals)
  pub differ : IsDistinct bytes_eq (map (λ (p : PortBit). p.name) (design_of files found).ports)
  pub levels : All (λ (p : PortBit). IsLevelByte p.initial) (design_of files found).ports

module _ (files : List Units) (found : List Instance) (known : Known files found) (read : Read files) (top : IsUnderTop found) where
  pub top-ports : TopPorts files found
  top-ports =
      let t = within-get found 0 (omega (arith, top.some)) in
      let os = objects_at files t.0.entity in
      let both = objects-named files found known read 0 t.0 t.1 in
      let ps = both.1.ports in
      let ss = both.1.signals in
      let object-at : (k offset : ℕ) (o : Object) → slice_get (ps ++ ss) k ≡ Some o → object_of files found (bit 0 (k, offset)) ≡ Some o =
      λ k offset o is. ap (λ (x : Option Instance). option_and_then (λ (j : Instance). slice_get (objects_at files j.entity) k) x) t.1 ∙ ap (λ (xs : List Object). slice_get xs k) both.1.are ∙ is in
      let port-bits = map (bit 0) (bits_of_all (enumerate_from 0 ps)) in
      let other-bits = map (bit 0) (bits_of_all (enumerate_from (0 + length ps) ss)) in
      let are-ports : AllByRecursion (IsPortBit files found) port-bits =
      each-map (IsPortBit files found) (bit 0) (bits_of_all (enumerate_from 0 ps))
      (each-flat (λ b. IsPortBit files found (bit 0 b)) whole_bits (enumerate_from 0 ps)
      (each-numbered (λ o. AllByRecursion (λ b. IsPortBit files found (bit 0 b)) (whole_bits o)) ps (λ k o is.
      let mode = some-mode o.mode (each-get (λ (x : Object). IsSome x.mode) ps k o both.1.are_ports is) in
      each-map (λ b. IsPortBit files found (bit 0 b)) (λ offset. (k, offset)) (range_with_len 0 (bits_of o.shape))
      (each-below (λ d. IsPortBit files found (bit 0 (k, d))) (bits_of o.shape) (λ d below.
      record { object = o; is = object-at k d o (get-left ps ss k o is); mode = mode.0; has = mode.1; first = refl }))))) in
      let are-others : AllByRecursion (IsOther files found) other-bits =
      each-map (IsOther files found) (bit 0) (bits_of_all (enumerate_from (0 + length ps) ss))
      (each-flat (λ b. IsOther files found (bit 0 b)) whole_bits (enumerate_from (0 + length ps) ss)
      (each-enumerated (λ o. AllByRecursion (λ b. IsOther files found (bit 0 b)) (whole_bits o)) (0 + length ps) ss (λ k o is.
      each-map (λ b. IsOther files found (bit 0 b)) (λ offset. ((0 + length ps) + k, offset)) (range_with_len 0 (bits_of o.shape))
      (each-below (λ d. IsOther files found (bit 0 ((0 + length ps) + k, d))) (bits_of o.shape) (λ d below.
      record { object = o; is = object-at ((0 + length ps) + k) d o (get-right ps ss k ((0 + length ps) + k) o (omega arith) is); none = each-get (λ (x : Object). x.mode ≡ None) ss k o both.1.are_signals is; first = refl }))))) in
      let top-bits : bits_of_instance files (0, t.0) ≡ port-bits ++ other-bits =
      ap (λ (xs : List Object). map (bit 0) (bits_of_all (enumerate_from 0 xs))) both.1.are
      ∙ ap (λ xs. map (bit 0) (bits_of_all xs)) (enumerate-append 0 ps ss)
      ∙ ap (map (bit 0)) (flat_map-append whole_bits (enumerate_from 0 ps) (enumerate_from (0 + length ps) ss))
      ∙ map-append (bit 0) (bits_of_all (enumerate_from 0 ps)) (bits_of_all (enumerate_from (0 + length ps) ss)) in
      let ports-are : (design_of files found).ports ≡ PortsOf files found port-bits =
      ap (λ (x : Option Instance). filter_map (port_bit files found) (option_map_or (λ i. bits_of_instance files (0, i)) x [])) t.1
      ∙ ap (filter_map (port_bit files found)) top-bits
      ∙ filter_map-append (port_bit files found) port-bits other-bits
      ∙ ap (λ xs. PortsOf files found port-bits ++ xs) (none-given (port_bit files found) other-bits (no-ports files found other-bits are-others))
      ∙ append-nil (PortsOf files found port-bits) in
      let later = flat_map (bits_of_instance files) (enumerate_from (0 + 1) (drop 1 found)) in
      let position : t.0.position ≡ None = no-position t.0.position (top.first 0 t.0 t.1) in
      let own : (b : Bit) → b.instance ≡ 0 → is_own files found b ≡ true =
      λ b zero-is.
      let placed : slice_get found b.instance ≡ Some t.0 = ap (slice_get found) zero-is ∙ t.1 in
      let none : bit_above files found b ≡ None =
      ap (λ (o : Option Instance). option_and_then (λ (j : Instance). option_and_then (bit_in j.position) (option_and_then (λ (k : Instance). option_and_then (connection_at files found b) k.position) o)) o) placed
      ∙ ap (λ (p : Option Position). option_and_then (bit_in p) (option_and_then (connection_at files found b) p)) position in
      ap (λ (o : Option Bit). not (is_some o)) none in
      let bits-are : bits files found ≡ port-bits ++ (other-bits ++ later) =
      ap (flat_map (bits_of_instance files)) (head-numbered found t.0 t.1) ∙ ap (λ (bs : List Bit). bs ++ later) top-bits ∙ append_assoc port-bits other-bits later in
      let signals-are : signals files found ≡ port-bits ++ filter (is_own files found) (other-bits ++ later) =
      ap (filter (is_own files found)) bits-are ∙ filter-first (is_own files found) port-bits (other-bits ++ later) (all-own own port-bits are-ports) in
      let split : (design_of files found).signals ≡ SignalsOf files found port-bits ++ SignalsOf files found (filter (is_own files found) (other-bits ++ later)) =
      ap (filter_map (design_signal files found)) signals-are ∙ filter_map-append (design_signal files found) port-bits (filter (is_own files found) (other-bits ++ later)) in
      let counted : length (design_of files found).ports ≡ length (SignalsOf files found port-bits) = ap length ports-are ∙ same-length files found port-bits are-ports in
      let taken : take (length (design_of files found).ports) (design_of files found).signals ≡ SignalsOf files found port-bits =
      ap (take (length (design_of files found).ports)) split ∙ take-first (length (design_of files found).ports) (SignalsOf files found port-bits) (SignalsOf files found (filter (is_own files found) (other-bits ++ later))) counted in
      let port-names : map (λ (p : PortBit). p.name) (design_of files found).ports ≡ flat_map names-of ps =
      ap (map (λ (p : PortBit). p.name)) ports-are
      ∙ all-names files found 0 ps (λ k offset o is. let same : k ≡ 0 + k = omega arith in subst (λ (n : ℕ). object_of files found (bit 0 (n, offset)) ≡ Some o) same (object-at k offset o (get-left ps ss k o is))) both.1.are_ports in
      let formed : AllByRecursion IsObjectFormed ps = each-left IsObjectFormed ps ss (subst (AllByRecursion IsObjectFormed) both.1.are both.0) in
      record {
        first = ap (map (λ (p : PortBit). p.name)) ports-are ∙ same-names files found port-bits are-ports ∙ sym (ap (map signal_bit_name) taken);
        at_top = All-from_recursion (λ (s : DesignSignal). s.instance ≡ 0) (take (length (design_of files found).ports) (design_of files found).signals)
            (subst (AllByRecursion (λ (s : DesignSignal). s.instance ≡ 0)) (sym taken) (at-top files found port-bits are-ports));
        differ = subst (λ (ns : List (List ℕ)). IsDistinct bytes_eq ns) (sym port-names) (distinct (flat_map names-of ps) (bits-apart ps formed both.1.apart));
        levels = All-from_recursion (λ (p : PortBit). IsLevelByte p.initial) (design_of files found).ports
            (subst (AllByRecursion (λ (p : PortBit). IsLevelByte p.initial)) (sym ports-are) (have-levels files found port-bits are-ports));
      }
    where
      all-own : ((b : Bit) → b.instance ≡ 0 → is_own files found b ≡ true) → (bs : List Bit) → AllByRecursion (IsPortBit files found) bs → AllByRecursion (λ b. is_own files found b ≡ true) bs
      all-own own [] all = tt
      all-own own (b ∷ bs) all = (own b all.0.first, all-own own bs all.1)
