-- Turns of the loops that make the wiring and the drivers.
use Rattle.std.proofs.Common.{◌≡◌, ℕ, ◌+◌, ◌<◌, ◌≤◌, true, false, List, [], ◌∷◌, ◌++◌, length, take, get_or, refl, sym, subst, ◌∙◌, ap, arith}
use Rattle.std.proofs.lemmas.List.{take_all}
use Rattle.std.proofs.lemmas.List.Elements.{filter_map-append}
use Rattle.std.proofs.lemmas.List.FromFn.{length-enumerate_from, map-range_with_len_more}
use Rattle.std.proofs.lemmas.Option.{get_or_from_slice_get, slice_get-get_or}
use Rattle.std.specs.Prelude.{Bool, cond, All, IsSome, is_some, slice_get, Some, None}
use Rattle.std.specs.List.{cons_option, enumerate_from, filter_map, flat_map}
use Rattle.std.specs.Option.{option_map_or}
use Rattle.vital_nodes.specs.declared.unit.Units.{Units}
use Rattle.vital_instances.specs.declared.instance.Instance.{Instance}
use Rattle.vital_netlist.specs.Cells.{Netlist, is_cell, number_of_entity}
use Rattle.vital_netlist.specs.declared.design_lists.DesignDriver.{DesignDriver}
use Rattle.vital_netlist.specs.DesignDrivers.{all_driven_bits, driven_bits}
use Rattle.vital_netlist.specs.Elaboration.{design_driver, wires_if_cell, wires_of, wiring}
use Rattle.vital_netlist.specs.Bits.{bit, bits}
use Rattle.vital_netlist.specs.Nets.{signal_number}
use Rattle.vital_netlist.specs.DesignObjects.{driven_at, objects_at}
use Rattle.vital_netlist.specs.Wiring.{driven_of, drivers, objects_of, single_bits, wires, wires_of_number}
use Rattle.vital_netlist.proofs.BitLemmas.{HaveSignals, cell-bits, piece-signals}
use Rattle.vital_netlist.proofs.DriverLemmas.{cell-drivers, net-drivers}
use Rattle.vital_netlist.proofs.ListLemmas.{enumerated-at}
use Rattle.vital_netlist.proofs.NumberLemmas.{is_cell-numbered}
use Rattle.vital_nodes.proofs.Lists.{filter_map-one, flat_map-one}

-- ---- one port or signal more

wires-more : (files : List Units) (is : List Instance) (k n : ℕ) → wires files is k (n + 1) ≡ wires files is k n ++ filter_map (signal_number files is) (bit k (n, 0) ∷ [])
wires-more files is k n =
    ap (filter_map (signal_number files is)) (map-range_with_len_more (λ m. bit k (m, 0)) 0 n n (omega arith))
    ∙ filter_map-append (signal_number files is) (single_bits k n) (bit k (n, 0) ∷ [])

pub wires-turn : (files : List Units) (is : List Instance) (k n offset : ℕ) (now new : List ℕ) → offset ≡ 0 → now ≡ wires files is k n → new ≡ now ++ filter_map (signal_number files is) (bit k (n, offset) ∷ []) → new ≡ wires files is k (n + 1)
wires-turn files is k n offset now new zero' before put =
    put
    ∙ ap (λ ws. ws ++ filter_map (signal_number files is) (bit k (n, offset) ∷ [])) before
    ∙ ap (λ m. wires files is k n ++ filter_map (signal_number files is) (bit k (n, m) ∷ [])) zero'
    ∙ sym (wires-more files is k n)

-- ---- one instance more

-- The wiring and the drivers of so many instances, the first ones.
abbrev pub wiring_before : List Units → List Instance → ℕ → List (List ℕ)
wiring_before files is k = filter_map (wires_if_cell files is) (take k (enumerate_from 0 is))

abbrev pub drivers_before : List Units → List Instance → ℕ → List DesignDriver
drivers_before files is k = filter_map (design_driver files is) (flat_map (driven_bits files) (take k (enumerate_from 0 is)))

-- what those of one more are
wiring-more : (files : List Units) (is : List Instance) (k : ℕ) (i : Instance) → k < length is → i ≡ get_or is k i → wiring_before files is (k + 1) ≡ wiring_before files is k ++ cons_option (wires_if_cell files is (k, i)) []
wiring-more files is k i there at =
    filter_map-one (wires_if_cell files is) (enumerate_from 0 is) k (k, i) (subst (λ n. k < n) (sym (length-enumerate_from 0 is)) there)
    (enumerated-at is k i there at)

drivers-more : (files : List Units) (is : List Instance) (k : ℕ) (i : Instance) → k < length is → i ≡ get_or is k i → drivers_before files is (k + 1) ≡ drivers_before files is k ++ filter_map (design_driver files is) (driven_bits files (k, i))
drivers-more files is k i there at =
    ap (filter_map (design_driver files is))
    (flat_map-one (driven_bits files) (enumerate_from 0 is) k (k, i) (subst (λ n. k < n) (sym (length-enumerate_from 0 is)) there)
    (enumerated-at is k i there at))
    ∙ filter_map-append (design_driver files is) (flat_map (driven_bits files) (take k (enumerate_from 0 is))) (driven_bits files (k, i))

objects-at : (files : List Units) (is : List Instance) (k : ℕ) (i : Instance) → slice_get is k ≡ Some i → objects_of (record { files = files; instances = is }) k ≡ objects_at files i.entity
objects-at files is k i at = ap (λ o. option_map_or (λ (j : Instance). objects_at files j.entity) o []) at

-- an instance of a cell
wires-as : (files : List Units) (is : List Instance) (k : ℕ) (i : Instance) → slice_get is k ≡ Some i → is_cell files i ≡ true → wires_of_number (record { files = files; instances = is }) k ≡ wires_of files is (k, i)
wires-as files is k i at one =
    ap (λ os. wires files is k (length os)) (objects-at files is k i at) ∙ sym (ap (filter_map (signal_number files is)) (cell-bits files k i one))

drivers-as : (files : List Units) (is : List Instance) (k : ℕ) (i : Instance) → slice_get is k ≡ Some i → is_cell files i ≡ true → All (λ b. IsSome (signal_number files is b)) (bits files is) → drivers (objects_of (record { files = files; instances = is }) k) (wires_of_number (record { files = files; instances = is }) k) (driven_of (record { files = files; instances = is }) k) ≡ filter_map (design_driver files is) (driven_bits files (k, i))
drivers-as files is k i at one all =
    ap (λ os. drivers os (wires files is k (length os)) (driven_of (record { files = files; instances = is }) k)) (objects-at files is k i at)
    ∙ ap (drivers (objects_at files i.entity) (wires files is k (length (objects_at files i.entity)))) (ap (λ o. option_map_or (λ (j : Instance). driven_at files j.entity) o []) at)
    ∙ cell-drivers files is k i at (subst (HaveSignals files is) (cell-bits files k i one) (piece-signals files is k i at all))

-- an instance of a cell is one of an entity with a number
tested : (netlist of_cells : Netlist) (items : List Instance) (k : ℕ) (d : Instance) → of_cells ≡ netlist → items ≡ netlist.instances → k < length netlist.instances → is_some (number_of_entity of_cells.files of_cells.instances (get_or items k d).entity) ≡ is_cell netlist.files (get_or netlist.instances k d)
tested netlist of_cells items k d same listed there =
    ap (λ (n : Netlist). is_some (number_of_entity n.files n.instances (get_or items k d).entity)) same
    ∙ ap (λ (js : List Instance). is_some (number_of_entity netlist.files netlist.instances (get_or js k d).entity)) listed
    ∙ is_cell-numbered netlist.files netlist.instances k (get_or netlist.instances k d) (slice_get-get_or netlist.instances k d there)

same-wiring : (w w' : List ℕ) (b : Bool) → (b ≡ true → w ≡ w') → cond b (w ∷ []) [] ≡ cons_option (cond b (Some w') None) []
same-wiring w w' true same = ap (λ v. v ∷ []) (same refl)
same-wiring w w' false same = refl

same-drivers : (ds ds' : List DesignDriver) (b : Bool) → (b ≡ true → ds ≡ ds') → (b ≡ false → ds' ≡ []) → cond b ds [] ≡ ds'
same-drivers ds ds' true one net = one refl
same-drivers ds ds' false one net = sym (net refl)

itself : (is : List Instance) (k : ℕ) (d : Instance) → k < length is → get_or is k d ≡ get_or is k (get_or is k d)
itself is k d there = sym (get_or_from_slice_get is k (get_or is k d) (get_or is k d) (slice_get-get_or is k d there))

pub wiring-turn : (netlist of_cells : Netlist) (items : List Instance) (k : ℕ) (d : Instance) (now new : List (List ℕ)) → of_cells ≡ netlist → items ≡ netlist.instances → k < length items → now ≡ wiring_before netlist.files netlist.instances k → new ≡ now ++ cond (is_some (number_of_entity of_cells.files of_cells.instances (get_or items k d).entity)) (wires_of_number netlist k ∷ []) [] → new ≡ wiring_before netlist.files netlist.instances (k + 1)
wiring-turn netlist of_cells items k d now new same listed there before put =
    let within : k < length netlist.instances = subst (λ (js : List Instance). k < length js) listed there in
    let files = netlist.files in
    let is = netlist.instances in
    let i = get_or is k d in
    put
    ∙ ap (λ ws. ws ++ cond (is_some (number_of_entity of_cells.files of_cells.instances (get_or items k d).entity)) (wires_of_number netlist k ∷ []) []) before
    ∙ ap (λ b. wiring_before files is k ++ cond b (wires_of_number netlist k ∷ []) []) (tested netlist of_cells items k d same listed within)
    ∙ ap (λ ws. wiring_before files is k ++ ws) (same-wiring (wires_of_number netlist k) (wires_of files is (k, i)) (is_cell files i) (λ one. wires-as files is k i (slice_get-get_or is k d within) one))
    ∙ sym (wiring-more files is k i within (itself is k d within))

pub drivers-turn : (netlist of_cells : Netlist) (items : List Instance) (k : ℕ) (d : Instance) (now new : List DesignDriver) → of_cells ≡ netlist → items ≡ netlist.instances → All (λ b. IsSome (signal_number netlist.files netlist.instances b)) (bits netlist.files netlist.instances) → k < length items → now ≡ drivers_before netlist.files netlist.instances k → new ≡ now ++ cond (is_some (number_of_entity of_cells.files of_cells.instances (get_or items k d).entity)) (drivers (objects_of netlist k) (wires_of_number netlist k) (driven_of netlist k)) [] → new ≡ drivers_before netlist.files netlist.instances (k + 1)
drivers-turn netlist of_cells items k d now new same listed all there before put =
    let within : k < length netlist.instances = subst (λ (js : List Instance). k < length js) listed there in
    let files = netlist.files in
    let is = netlist.instances in
    let i = get_or is k d in
    let ds = drivers (objects_of netlist k) (wires_of_number netlist k) (driven_of netlist k) in
    put
    ∙ ap (λ es. es ++ cond (is_some (number_of_entity of_cells.files of_cells.instances (get_or items k d).entity)) ds []) before
    ∙ ap (λ b. drivers_before files is k ++ cond b ds []) (tested netlist of_cells items k d same listed within)
    ∙ ap (λ es. drivers_before files is k ++ es)
    (same-drivers ds (filter_map (design_driver files is) (driven_bits files (k, i))) (is_cell files i)
    (λ one. drivers-as files is k i (slice_get-get_or is k d within) one all) (λ net. net-drivers files is k i net))
    ∙ sym (drivers-more files is k i within (itself is k d within))

-- ---- all instances

enumerated : (is : List Instance) (k : ℕ) → length is ≤ k → take k (enumerate_from 0 is) ≡ enumerate_from 0 is
enumerated is k whole = take_all k (enumerate_from 0 is) (subst (λ n. n ≤ k) (sym (length-enumerate_from 0 is)) whole)

pub wiring-all : (files : List Units) (is : List Instance) (k : ℕ) → length is ≤ k → wiring_before files is k ≡ wiring files is
wiring-all files is k whole = ap (filter_map (wires_if_cell files is)) (enumerated is k whole)

pub drivers-all : (files : List Units) (is : List Instance) (k : ℕ) → length is ≤ k → drivers_before files is k ≡ filter_map (design_driver files is) (all_driven_bits files is)
drivers-all files is k whole = ap (λ es. filter_map (design_driver files is) (flat_map (driven_bits files) es)) (enumerated is k whole)
