-- The wiring and the drivers of the instances of cells of a design.
use Rattle.std.proofs.Common.{◌≡◌, ℕ, zero, suc, ◌+◌, ◌≤◌, ◌<◌, List, [], ◌∷◌, ◌++◌, length, map, true, false, refl, sym, ap, subst, ◌∙◌, inl, inr, length-append, arith}
use Rattle.std.specs.Prelude.{◌⊎◌, cond, All, Option, Some, None, IsSome}
use Rattle.std.specs.List.{AllByRecursion, cons_option, enumerate_from, filter_map, flat_map, range_with_len, slice_get, zip}
use Rattle.std.specs.Option.{option_and_then, option_map, option_map_or}
use Rattle.std.proofs.lemmas.List.{length-map}
use Rattle.std.proofs.lemmas.List.Elements.{All-from_recursion, filter_map-append}
use Rattle.std.proofs.lemmas.List.{map-append}
use Rattle.std.proofs.lemmas.Option.{slice_get-map, slice_get_past, slice_get_within}
use Rattle.vital_connections.specs.Objects.{Object, bits_of_all}
use Rattle.vital_netlist.specs.Cells.{cell_number, cells, is_cell, is_lib, number_of_entity, tree_of}
use Rattle.vital_netlist.specs.CellDrivers.{driven_numbers}
use Rattle.vital_netlist.specs.CellObjects.{object_of_internal, object_of_port, objects_of_cell}
use Rattle.vital_netlist.specs.Designs.{DesignInstance}
use Rattle.vital_netlist.specs.DesignDrivers.{driven_bits}
use Rattle.vital_netlist.specs.Elaboration.{design_driver, design_instance, design_of, driver_with, wires_if_cell, wires_of}
use Rattle.vital_netlist.specs.Soundness.{IsWired, driven_signals, placed_cells, wired_cells}
use Rattle.vital_netlist.specs.declared.design_lists.DesignDriver.{DesignDriver}
use Rattle.vital_instances.specs.declared.instance.Instance.{Instance}
use Rattle.vital_instances.specs.Designs.{IsUnderTop}
use Rattle.vital_instances.specs.Units.{Unit, unit_at}
use Rattle.vital_netlist.specs.declared.bit.Bit.{Bit}
use Rattle.vital_netlist.specs.Bits.{bit, bits_of_instance, object_of}
use Rattle.vital_netlist.specs.Nets.{signal_number, signals}
use Rattle.vital_netlist.specs.DesignObjects.{driven_as, driven_at, objects_at}
use Rattle.vital_nodes.specs.declared.unit.Role.{Role}
use Rattle.vital_nodes.specs.declared.unit.Role.TheVariants.{Lib, Net}
use Rattle.vital_nodes.specs.declared.unit.Units.{Units}
use Rattle.vital_typed_cells.specs.Sound.{bit_count}
use Rattle.vital_structure.specs.Shapes.{Shape, Scalar, bits_of}
use Rattle.vital_typed_cells.specs.declared.typed_cell.TypedCell.{TypedCell}
use Rattle.vital_netlist.proofs.Bits.{IsThere, of-instance}
use Rattle.vital_netlist.proofs.DesignCells.{number-of-cell, role-says}
use Rattle.vital_netlist.proofs.Lists.{each-given, each-numbered, each-weaker, given-get, given-length}
use Rattle.vital_netlist.proofs.Nets.{numbered}
use Rattle.vital_netlist.proofs.SignalParts.{position-below, signal-count}
use Rattle.vital_netlist.proofs.UnitFacts.{Known, cell-bits, cell-objects, unit-there}
use Rattle.vital_netlist.proofs.UnitNames.{Read}

-- ---- ports and signals of one bit each

abbrev AreBits : List Object → Type 0
AreBits os = AllByRecursion (λ (o : Object). o.shape ≡ Scalar) os

scalar-bits : (m : ℕ) (os : List Object) → AreBits os → bits_of_all (enumerate_from m os) ≡ map (λ k. (k, 0)) (range_with_len m (length os))
scalar-bits m [] all = refl
scalar-bits m (o ∷ os) all =
    ap (λ (s : Shape). map (λ offset. (m, offset)) (range_with_len 0 (bits_of s)) ++ bits_of_all (enumerate_from (m + 1) os)) all.0
    ∙ ap (λ (bs : List (ℕ × ℕ)). (m, 0) ∷ bs) (scalar-bits (m + 1) os all.1)

range-length : (m len : ℕ) → length (range_with_len m len) ≡ len
range-length m zero = refl
range-length m (suc len) = ap suc (range-length (m + 1) len)

range-get : (m len k : ℕ) → k < len → slice_get (range_with_len m len) k ≡ Some (m + k)
range-get m zero k below = absurd (omega arith)
range-get m (suc len) zero below = let same : m ≡ m + 0 = omega arith in ap (λ (n : ℕ). Some n) same
range-get m (suc len) (suc k) below =
    let same : (m + 1) + k ≡ m + suc k = omega arith in
    range-get (m + 1) len k (omega arith) ∙ ap (λ (n : ℕ). Some n) same

-- ---- lists

cons-map : {A B : Type 0} (f : A → B) (o : Option A) (xs : List A) → map f (cons_option o xs) ≡ cons_option (option_map f o) (map f xs)
cons-map f None xs = refl
cons-map f (Some x) xs = refl

same-given : {A B C : Type 0} (f : B → Option C) (s : C → ℕ) (g : A → B) (h : A → Option ℕ) → ((x : A) → option_map s (f (g x)) ≡ h x) → (xs : List A) → map s (filter_map f (map g xs)) ≡ filter_map h xs
same-given f s g h same [] = refl
same-given f s g h same (x ∷ xs) =
    cons-map s (f (g x)) (filter_map f (map g xs)) ∙ (λ i. cons_option (same x i) (same-given f s g h same xs i))

given-map : {A B C : Type 0} (f : B → Option C) (g : A → B) (xs : List A) → filter_map f (map g xs) ≡ filter_map (λ x. f (g x)) xs
given-map f g [] = refl
given-map f g (x ∷ xs) = ap (cons_option (f (g x))) (given-map f g xs)

-- ---- one instance

-- an instance of a cell with its wires, and one of a netlist unit, which has none
record IsCellPart (files : List Units) (found : List Instance) (i : ℕ × Instance) : Type 0 where
  pub tree : TypedCell
  pub placed : option_and_then (slice_get (cells files found)) (cell_number files found i.1) ≡ Some tree
  pub wires : wires_if_cell files found i ≡ Some (wires_of files found i)
  pub wired : IsWired (design_of files found) (tree, wires_of files found i)
  pub drives : map (λ (d : DesignDriver). d.signal) (filter_map (design_driver files found) (driven_bits files i)) ≡ driven_signals (tree, wires_of files found i)

record IsNetPart (files : List Units) (found : List Instance) (i : ℕ × Instance) : Type 0 where
  pub placed : option_and_then (slice_get (cells files found)) (cell_number files found i.1) ≡ None
  pub wires : wires_if_cell files found i ≡ None
  pub drives : driven_bits files i ≡ []

abbrev IsPart : List Units → List Instance → ℕ × Instance → Type 0
IsPart files found i = IsCellPart files found i ⊎ IsNetPart files found i

module _ (files : List Units) (found : List Instance) (known : Known files found) (read : Read files) (top : IsUnderTop found) where
  wire-given : (b : Bit) → IsThere files found b → IsSome (signal_number files found b)
  wire-given b there = let n = numbered files found known b there in subst IsSome (sym n.1) refl

  wires-all : (n : ℕ) (i : Instance) → slice_get found n ≡ Some i → AllByRecursion (λ b. IsSome (signal_number files found b)) (bits_of_instance files (n, i))
  wires-all n i at = each-weaker (IsThere files found) (λ b. IsSome (signal_number files found b)) wire-given (bits_of_instance files (n, i)) (of-instance files found n i at)

  wires-below : (bs : List Bit) → AllByRecursion (λ b. (s : ℕ) → signal_number files found b ≡ Some s → s < length (design_of files found).signals) bs
  wires-below [] = tt
  wires-below (b ∷ bs) = (
    (λ s is. subst (λ (c : ℕ). s < c) (sym (signal-count files found known read top)) (position-below _ (signals files found) s is)),
    wires-below bs,
  )

  bits-are : (n : ℕ) (i : Instance) (u : Unit) → unit_at files i.entity ≡ Some u → u.role ≡ Lib → bits_of_instance files (n, i) ≡ map (bit n) (map (λ k. (k, 0)) (range_with_len 0 (length (objects_of_cell (tree_of files u)))))
  bits-are n i u there cell =
      ap (λ (os : List Object). map (bit n) (bits_of_all (enumerate_from 0 os))) (cell-objects files i.entity u there cell)
      ∙ ap (map (bit n)) (scalar-bits 0 (objects_of_cell (tree_of files u)) (cell-bits (tree_of files u)))

  -- the driver of a bit is one of the signal of its wire
  wire-of : (n : ℕ) (i : Instance) (u : Unit) (k : ℕ) (o : Option Object) → slice_get found n ≡ Some i → unit_at files i.entity ≡ Some u → u.role ≡ Lib → slice_get (objects_of_cell (tree_of files u)) k ≡ o → option_map (λ (d : DesignDriver). d.signal) (design_driver files found (bit n (k, 0))) ≡ slice_get (wires_of files found (n, i)) k
  wire-of n i u k None at there cell is =
      let os = objects_of_cell (tree_of files u) in
      let b = bit n (k, 0) in
      let none : object_of files found b ≡ None = ap (λ (x : Option Instance). option_and_then (λ (j : Instance). slice_get (objects_at files j.entity) k) x) at ∙ ap (λ (xs : List Object). slice_get xs k) (cell-objects files i.entity u there cell) ∙ is in
      let no-bit : slice_get (bits_of_instance files (n, i)) k ≡ None =
      ap (λ (bs : List Bit). slice_get bs k) (bits-are n i u there cell)
      ∙ slice_get-map (bit n) (map (λ k. (k, 0)) (range_with_len 0 (length os))) k
      ∙ ap (option_map (bit n)) (slice_get-map (λ k. (k, 0)) (range_with_len 0 (length os)) k ∙ ap (option_map (λ k. (k, 0))) (past k (length os) os refl is)) in
      ap (λ (x : Option Object). option_map (λ (d : DesignDriver). d.signal) (option_and_then (λ o. option_map (driver_with o) (signal_number files found b)) x)) none
      ∙ sym (given-get (signal_number files found) (bits_of_instance files (n, i)) k (wires-all n i at) ∙ ap (option_and_then (signal_number files found)) no-bit)
    where
      outside : (xs : List Object) (m : ℕ) → slice_get xs m ≡ None → length xs ≤ m
      outside [] m e = omega arith
      outside (x ∷ xs) zero e = absurd (cc)
      outside (x ∷ xs) (suc m) e = let rest = outside xs m e in omega (arith, rest)

      past : (m len : ℕ) (xs : List Object) → length xs ≡ len → slice_get xs m ≡ None → slice_get (range_with_len 0 len) m ≡ None
      past m len xs same e = slice_get_past (range_with_len 0 len) m (omega (arith, range-length 0 len, outside xs m e, same))
  wire-of n i u k (Some o) at there cell is =
      let os = objects_of_cell (tree_of files u) in
      let b = bit n (k, 0) in
      let has : slice_get (objects_at files i.entity) k ≡ Some o = ap (λ (xs : List Object). slice_get xs k) (cell-objects files i.entity u there cell) ∙ is in
      let one : o.shape ≡ Scalar = one-shape os k o (cell-bits (tree_of files u)) is in
      let stands : IsThere files found b = record { owner = i; placed = at; object = o; has = has; inside = subst (λ (s : Shape). 0 < bits_of s) (sym one) (omega arith) } in
      let s = numbered files found known b stands in
      let below = slice_get_within os k o is in
      let zero-k : 0 + k ≡ k = omega arith in
      let a-bit : slice_get (bits_of_instance files (n, i)) k ≡ Some b =
      ap (λ (bs : List Bit). slice_get bs k) (bits-are n i u there cell)
      ∙ slice_get-map (bit n) (map (λ k. (k, 0)) (range_with_len 0 (length os))) k
      ∙ ap (option_map (bit n)) (slice_get-map (λ k. (k, 0)) (range_with_len 0 (length os)) k ∙ ap (option_map (λ k. (k, 0))) (range-get 0 (length os) k below ∙ ap (λ (m : ℕ). Some m) zero-k)) in
      let object : object_of files found b ≡ Some o = ap (λ (x : Option Instance). option_and_then (λ (j : Instance). slice_get (objects_at files j.entity) k) x) at ∙ has in
      ap (λ (x : Option Object). option_map (λ (d : DesignDriver). d.signal) (option_and_then (λ o. option_map (driver_with o) (signal_number files found b)) x)) object
      ∙ ap (λ (x : Option ℕ). option_map (λ (d : DesignDriver). d.signal) (option_map (driver_with o) x)) s.1
      ∙ sym (given-get (signal_number files found) (bits_of_instance files (n, i)) k (wires-all n i at) ∙ ap (option_and_then (signal_number files found)) a-bit ∙ s.1)
    where
      one-shape : (xs : List Object) (m : ℕ) (x : Object) → AreBits xs → slice_get xs m ≡ Some x → x.shape ≡ Scalar
      one-shape [] m x all e = absurd (cc)
      one-shape (y ∷ ys) zero x all e = let same : y ≡ x = cc in subst (λ (z : Object). z.shape ≡ Scalar) same all.0
      one-shape (y ∷ ys) (suc m) x all e = one-shape ys m x all.1 e

  cell-part : (n : ℕ) (i : Instance) (u : Unit) → slice_get found n ≡ Some i → unit_at files i.entity ≡ Some u → u.role ≡ Lib → IsCellPart files found (n, i)
  cell-part n i u at there cell =
      let c = tree_of files u in
      let is : is_cell files i ≡ true = role-says files i u there ∙ ap is_lib cell in
      let m = number-of-cell files found known read n i u at there is in
      let bs = bits_of_instance files (n, i) in
      let os = objects_of_cell c in
      let count : length bs ≡ length os =
      ap length (bits-are n i u there cell) ∙ length-map (map (λ k. (k, 0)) (range_with_len 0 (length os))) (bit n) ∙ length-map (range_with_len 0 (length os)) (λ k. (k, 0)) ∙ range-length 0 (length os) in
      let whole : length os ≡ bit_count c =
      length-append (map (object_of_port c.packages) c.ports) (map object_of_internal c.signals) ∙ (λ j. length-map c.ports (object_of_port c.packages) j + length-map c.signals object_of_internal j) in
      let driven : driven_at files i.entity ≡ driven_numbers c = ap (λ (o : Option Unit). option_map_or (λ (v : Unit). driven_as files v v.role) o []) there ∙ ap (driven_as files u) cell in
      record {
        tree = c;
        placed = ap (option_and_then (slice_get (cells files found))) m.numbered ∙ m.tree;
        wires = ap (λ b. cond b (Some (wires_of files found (n, i))) None) is;
        wired = record {
          all = given-length (signal_number files found) bs (wires-all n i at) ∙ count ∙ whole;
          there = All-from_recursion (λ signal. signal < length (design_of files found).signals) (wires_of files found (n, i))
              (each-given (λ signal. signal < length (design_of files found).signals) (signal_number files found) bs (wires-below bs));
        };
        drives = ap (λ (ks : List ℕ). map (λ (d : DesignDriver). d.signal) (filter_map (design_driver files found) (map (λ number. bit n (number, 0)) ks))) driven
            ∙ same-given (design_driver files found) (λ (d : DesignDriver). d.signal) (λ number. bit n (number, 0)) (slice_get (wires_of files found (n, i)))
            (λ k. wire-of n i u k (slice_get os k) at there cell refl) (driven_numbers c);
      }

  net-part : (n : ℕ) (i : Instance) (u : Unit) → unit_at files i.entity ≡ Some u → u.role ≡ Net → IsNetPart files found (n, i)
  net-part n i u there net =
      let is : is_cell files i ≡ false = role-says files i u there ∙ ap is_lib net in
      record {
        placed = ap (λ b. option_and_then (slice_get (cells files found)) (cond b (number_of_entity files found i.entity) None)) is;
        wires = ap (λ b. cond b (Some (wires_of files found (n, i))) None) is;
        drives = ap (map (λ number. bit n (number, 0))) (ap (λ (o : Option Unit). option_map_or (λ (v : Unit). driven_as files v v.role) o []) there ∙ ap (driven_as files u) net);
      }

  part-by : (n : ℕ) (i : Instance) (u : Unit) (r : Role) → slice_get found n ≡ Some i → unit_at files i.entity ≡ Some u → u.role ≡ r → IsPart files found (n, i)
  part-by n i u Lib at there role = inl (cell-part n i u at there role)
  part-by n i u Net at there role = inr (net-part n i u there role)

  all-parts : AllByRecursion (IsPart files found) (enumerate_from 0 found)
  all-parts = each-numbered (IsPart files found) found (λ n i at. let u = unit-there files found known n i at in part-by n i u.0 u.0.role at u.1 refl)

-- ---- all instances

abbrev Placed : List Units → List Instance → List Instance → List TypedCell
Placed files found is = filter_map (λ i. option_and_then (slice_get (cells files found)) (cell_number files found i)) is

abbrev Wires : List Units → List Instance → List (ℕ × Instance) → List (List ℕ)
Wires files found is = filter_map (wires_if_cell files found) is

abbrev signals-of : List DesignDriver → List ℕ
signals-of ds = map (λ (d : DesignDriver). d.signal) ds

record AllWired (files : List Units) (found : List Instance) (n : ℕ) (is : List Instance) : Type 0 where
  pub once : length (Wires files found (enumerate_from n is)) ≡ length (Placed files found is)
  pub each : AllByRecursion (IsWired (design_of files found)) (zip (Placed files found is) (Wires files found (enumerate_from n is)))
  pub drives : signals-of (filter_map (design_driver files found) (flat_map (driven_bits files) (enumerate_from n is))) ≡ flat_map driven_signals (zip (Placed files found is) (Wires files found (enumerate_from n is)))

module _ (files : List Units) (found : List Instance) where
  with-part : (n : ℕ) (i : Instance) (is : List Instance) → IsPart files found (n, i) → AllWired files found (n + 1) is → AllWired files found n (i ∷ is)
  with-part n i is (inl p) rest =
      let ps = Placed files found is in
      let ws = Wires files found (enumerate_from (n + 1) is) in
      let bs = flat_map (driven_bits files) (enumerate_from (n + 1) is) in
      let placed : Placed files found (i ∷ is) ≡ p.tree ∷ ps = ap (λ o. cons_option o ps) p.placed in
      let wires : Wires files found (enumerate_from n (i ∷ is)) ≡ wires_of files found (n, i) ∷ ws = ap (λ o. cons_option o ws) p.wires in
      let zips : zip (Placed files found (i ∷ is)) (Wires files found (enumerate_from n (i ∷ is))) ≡ (p.tree, wires_of files found (n, i)) ∷ zip ps ws = λ j. zip (placed j) (wires j) in
      record {
        once = ap length wires ∙ ap suc rest.once ∙ sym (ap length placed);
        each = subst (AllByRecursion (IsWired (design_of files found))) (sym zips) (p.wired, rest.each);
        drives = ap signals-of (filter_map-append (design_driver files found) (driven_bits files (n, i)) bs)
            ∙ map-append (λ (d : DesignDriver). d.signal) (filter_map (design_driver files found) (driven_bits files (n, i))) (filter_map (design_driver files found) bs)
            ∙ (λ j. p.drives j ++ rest.drives j)
            ∙ sym (ap (flat_map driven_signals) zips);
      }
  with-part n i is (inr p) rest =
      let ps = Placed files found is in
      let ws = Wires files found (enumerate_from (n + 1) is) in
      let bs = flat_map (driven_bits files) (enumerate_from (n + 1) is) in
      let placed : Placed files found (i ∷ is) ≡ ps = ap (λ o. cons_option o ps) p.placed in
      let wires : Wires files found (enumerate_from n (i ∷ is)) ≡ ws = ap (λ o. cons_option o ws) p.wires in
      let zips : zip (Placed files found (i ∷ is)) (Wires files found (enumerate_from n (i ∷ is))) ≡ zip ps ws = λ j. zip (placed j) (wires j) in
      record {
        once = ap length wires ∙ rest.once ∙ sym (ap length placed);
        each = subst (AllByRecursion (IsWired (design_of files found))) (sym zips) rest.each;
        drives = ap (λ ds. signals-of (filter_map (design_driver files found) (ds ++ bs))) p.drives ∙ rest.drives ∙ sym (ap (flat_map driven_signals) zips);
      }

  all-wired : (n : ℕ) (is : List Instance) → AllByRecursion (IsPart files found) (enumerate_from n is) → AllWired files found n is
  all-wired n [] parts = record { once = refl; each = tt; drives = refl }
  all-wired n (i ∷ is) parts = with-part n i is parts.0 (all-wired (n + 1) is parts.1)

-- ---- the design

module _ (files : List Units) (found : List Instance) (known : Known files found) (read : Read files) (top : IsUnderTop found) where
  wired-so : AllWired files found 0 found
  wired-so = all-wired files found 0 found (all-parts files found known read top)

  placed-are : placed_cells (design_of files found) ≡ Placed files found found
  placed-are = given-map (λ (i : DesignInstance). option_and_then (slice_get (cells files found)) i.cell) (design_instance files found) found

  pub wired-once : length (design_of files found).wiring ≡ length (placed_cells (design_of files found))
  wired-once = wired-so.once ∙ sym (ap length placed-are)

  pub wired : All (IsWired (design_of files found)) (wired_cells (design_of files found))
  wired =
      All-from_recursion (IsWired (design_of files found)) (wired_cells (design_of files found))
      (subst (λ (cs : List TypedCell). AllByRecursion (IsWired (design_of files found)) (zip cs (design_of files found).wiring)) (sym placed-are) wired-so.each)

  pub drivers-of-cells : map (λ (d : DesignDriver). d.signal) (design_of files found).drivers ≡ flat_map driven_signals (wired_cells (design_of files found))
  drivers-of-cells = wired-so.drives ∙ ap (λ (cs : List TypedCell). flat_map driven_signals (zip cs (design_of files found).wiring)) (sym placed-are)
