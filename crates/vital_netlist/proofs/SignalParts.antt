-- The instances, signals and drivers of a design.
use Rattle.std.proofs.Common.{◌≡◌, ℕ, zero, suc, ◌<◌, List, [], ◌∷◌, length, map, true, false, refl, sym, ap, subst, ◌∙◌, arith}
use Rattle.std.specs.Prelude.{Bool, cond, not, ◌==◌, is_some, position, All, Option, Some, None, IsSome}
use Rattle.std.specs.List.{AllByRecursion, enumerate_from, slice_get}
use Rattle.std.specs.Option.{option_and_then, option_map, option_map_or}
use Rattle.std.proofs.lemmas.Bool.Decides.{nat_tests}
use Rattle.std.proofs.lemmas.List.{length-map}
use Rattle.std.proofs.lemmas.List.Elements.{All-from_recursion}
use Rattle.std.proofs.lemmas.List.Quantifiers.{position-Some}
use Rattle.std.proofs.lemmas.Option.{none-some, same_Some, slice_get_within}
use Rattle.vital_connections.specs.Objects.{Object}
use Rattle.vital_netlist.specs.Cells.{cells, is_cell, number_of_entity}
use Rattle.vital_netlist.specs.Designs.{DesignInstance, DesignSignal, Site}
use Rattle.vital_netlist.specs.DesignDrivers.{all_driven_bits}
use Rattle.vital_netlist.specs.Elaboration.{design_driver, design_instance, design_of, design_signal, driver_with, label_in, signal_with, site_at}
use Rattle.vital_netlist.specs.Soundness.{IsPlaced, IsSoundInstance, IsSoundSignal, IsThere as IsNumber}
use Rattle.vital_netlist.specs.declared.design_lists.DesignDriver.{DesignDriver}
use Rattle.vital_instances.specs.declared.instance.Instance.{Instance}
use Rattle.vital_instances.specs.declared.instance.Position.{Position}
use Rattle.vital_instances.specs.Children.{Child}
use Rattle.vital_instances.specs.Designs.{IsUnderTop}
use Rattle.vital_instances.specs.Units.{Unit}
use Rattle.vital_netlist.specs.declared.bit.Bit.{Bit}
use Rattle.vital_netlist.specs.Bits.{bits, is_same, object_of}
use Rattle.vital_netlist.specs.Nets.{is_own, net, signal_number, signals}
use Rattle.vital_netlist.specs.DesignObjects.{name_at, objects_at}
use Rattle.vital_nodes.specs.IdentifierNames.{IsIdentifierName}
use Rattle.vital_nodes.specs.declared.unit.Units.{Units}
use Rattle.vital_netlist.proofs.Bits.{IsThere, bits-there}
use Rattle.vital_netlist.proofs.Children.{child-made}
use Rattle.vital_netlist.proofs.DesignCells.{number-of-cell}
use Rattle.vital_netlist.proofs.Lists.{each-filter, each-get, each-given, each-numbered, each-weaker, given-length}
use Rattle.vital_netlist.proofs.NamesRead.{IsFormed}
use Rattle.vital_netlist.proofs.UnitFacts.{Known, unit-there}
use Rattle.vital_netlist.proofs.UnitNames.{IsObjectFormed, Read, labels-formed, objects-named, unit-formed}

pub get-unmapped : {A B : Type 0} (f : A → B) (xs : List A) (k : ℕ) (y : B) → slice_get (map f xs) k ≡ Some y → (x : A) × (slice_get xs k ≡ Some x) × (f x ≡ y)
get-unmapped f [] k y at = absurd (none-some y at)
get-unmapped f (x ∷ xs) zero y at = (x, refl, same_Some (f x) y at)
get-unmapped f (x ∷ xs) (suc k) y at = get-unmapped f xs k y at

pub position-below : {A : Type 0} (test : A → Bool) (xs : List A) (n : ℕ) → position test xs ≡ Some n → n < length xs
position-below test [] n is = absurd (cc)
position-below test (x ∷ xs) n is = (position-Some test (x ∷ xs) n x is).0

is-zero : (n : ℕ) → false ≡ not (n == 0) → n ≡ 0
is-zero n h = grind (arith, nat_tests)

module _ (files : List Units) (found : List Instance) (known : Known files found) (read : Read files) (top : IsUnderTop found) where
  -- ---- signals

  pub object-is : (b : Bit) (there : IsThere files found b) → object_of files found b ≡ Some there.object
  object-is b there = ap (λ (o : Option Instance). option_and_then (λ (i : Instance). slice_get (objects_at files i.entity) b.object) o) there.placed ∙ there.has

  pub signals-there : AllByRecursion (IsThere files found) (signals files found)
  signals-there = each-filter (IsThere files found) (is_own files found) (bits files found) (bits-there files found)

  pub signal-given : (b : Bit) → IsThere files found b → IsSome (design_signal files found b)
  signal-given b there = subst (λ (o : Option Object). IsSome (option_map (signal_with files found b) o)) (sym (object-is b there)) refl

  pub signal-count : length (design_of files found).signals ≡ length (signals files found)
  signal-count =
      given-length (design_signal files found) (signals files found) (each-weaker (IsThere files found) (λ b. IsSome (design_signal files found b)) signal-given (signals files found) signals-there)

  signal-sound : (b : Bit) → IsThere files found b → (s : DesignSignal) → design_signal files found b ≡ Some s → IsSoundSignal (design_of files found) s
  signal-sound b there s e =
      let same : signal_with files found b there.object ≡ s = same_Some (signal_with files found b there.object) s (sym (ap (option_map (signal_with files found b)) (object-is b there)) ∙ e) in
      let sound : IsSoundSignal (design_of files found) (signal_with files found b there.object) = record {
        instance_there = subst (λ (n : ℕ). b.instance < n) (sym (length-map found (design_instance files found))) (slice_get_within found b.instance there.owner there.placed);
        identifier_formed = each-get IsObjectFormed (objects_at files there.owner.entity) b.object there.object
            (objects-named files found known read b.instance there.owner there.placed).0 there.has;
      } in
      subst (IsSoundSignal (design_of files found)) same sound

  pub signals-sound : All (IsSoundSignal (design_of files found)) (design_of files found).signals
  signals-sound =
      All-from_recursion (IsSoundSignal (design_of files found)) (design_of files found).signals
      (each-given (IsSoundSignal (design_of files found)) (design_signal files found) (signals files found)
      (each-weaker (IsThere files found) (λ b. (s : DesignSignal) → design_signal files found b ≡ Some s → IsSoundSignal (design_of files found) s) signal-sound (signals files found) signals-there))

  -- ---- drivers

  by-number : (b : Bit) (o : Object) (n : Option ℕ) (d : DesignDriver) → signal_number files found b ≡ n → option_map (driver_with o) n ≡ Some d → d.signal < length (design_of files found).signals
  by-number b o None d is e = absurd (cc)
  by-number b o (Some n) d is e =
      let same : driver_with o n ≡ d = same_Some (driver_with o n) d e in
      subst (λ (c : ℕ). d.signal < c) (sym signal-count)
      (subst (λ (x : DesignDriver). x.signal < length (signals files found)) same (position-below (is_same (net files found b)) (signals files found) n is))

  by-object : (b : Bit) (o : Option Object) (d : DesignDriver) → option_and_then (λ o. option_map (driver_with o) (signal_number files found b)) o ≡ Some d → d.signal < length (design_of files found).signals
  by-object b None d e = absurd (cc)
  by-object b (Some o) d e = by-number b o (signal_number files found b) d refl e

  all-drivers : (bs : List Bit) → AllByRecursion (λ b. (d : DesignDriver) → design_driver files found b ≡ Some d → d.signal < length (design_of files found).signals) bs
  all-drivers [] = tt
  all-drivers (b ∷ bs) = (λ d e. by-object b (object_of files found b) d e, all-drivers bs)

  pub drivers-there : All (λ (driver : DesignDriver). driver.signal < length (design_of files found).signals) (design_of files found).drivers
  drivers-there =
      All-from_recursion (λ (driver : DesignDriver). driver.signal < length (design_of files found).signals) (design_of files found).drivers
      (each-given (λ (driver : DesignDriver). driver.signal < length (design_of files found).signals) (design_driver files found) (all_driven_bits files found) (all-drivers (all_driven_bits files found)))

  -- ---- instances

  site-is : (n : ℕ) (i : Instance) (at : Position) → slice_get found n ≡ Some i → i.position ≡ Some at → (s : Site) × (site_at files found at ≡ Some s) × (s.instance ≡ at.parent) × IsIdentifierName s.label
  site-is n i at stands placed =
      let child = known.children n i at stands placed in
      let p = child.parent in
      let c = child.child in
      let made = child-made files IsFormed p.entity at.child c (λ u there net. labels-formed files read p.entity u there) child.here in
      let site : Site = record { instance = at.parent; label = c.label.name } in (
        site,
        ap (λ (o : Option Instance). option_map (λ label. record { instance = at.parent; label = label }) (option_and_then (label_in files at) o)) child.there
            ∙ ap (λ (o : Option Child). option_map (λ label. record { instance = at.parent; label = label }) (option_map (λ (x : Child). x.label.name) o)) child.here,
        refl,
        made.child.label,
      )

  placed-by : (n : ℕ) (i : Instance) (p : Option Position) → slice_get found n ≡ Some i → i.position ≡ p → IsPlaced n (option_and_then (site_at files found) p)
  placed-by n i None stands is = is-zero n (ap is_some (sym is) ∙ top.first n i stands)
  placed-by n i (Some at) stands is =
      let site = site-is n i at stands is in
      subst (IsPlaced n) (sym site.1) (record { before = subst (λ (m : ℕ). m < n) (sym site.2) (known.parents n i at stands is); label_formed = site.3 })

  numbered-by : (n : ℕ) (i : Instance) (b : Bool) → slice_get found n ≡ Some i → is_cell files i ≡ b → IsNumber (length (cells files found)) (cond b (number_of_entity files found i.entity) None)
  numbered-by n i false stands is = tt
  numbered-by n i true stands is =
      let u = unit-there files found known n i stands in
      let m = number-of-cell files found known read n i u.0 stands u.1 is in
      subst (IsNumber (length (cells files found))) (sym (sym (ap (λ b. cond b (number_of_entity files found i.entity) None) is) ∙ m.numbered)) m.below

  instance-sound : (n : ℕ) (x : DesignInstance) → slice_get (map (design_instance files found) found) n ≡ Some x → IsSoundInstance (design_of files found) (n, x)
  instance-sound n x at =
      let i = get-unmapped (design_instance files found) found n x at in
      let u = unit-there files found known n i.0 i.1 in
      let named : name_at files i.0.entity ≡ u.0.entity.identifier.name = ap (λ (o : Option Unit). option_map_or (λ (v : Unit). v.entity.identifier.name) o []) u.1 in
      let sound : IsSoundInstance (design_of files found) (n, design_instance files found i.0) = record {
        placed = placed-by n i.0 i.0.position i.1 refl;
        unit_formed = subst IsIdentifierName (sym named) (unit-formed files read i.0.entity u.0 u.1);
        cell_there = numbered-by n i.0 (is_cell files i.0) i.1 refl;
      } in
      subst (λ (y : DesignInstance). IsSoundInstance (design_of files found) (n, y)) i.2 sound

  pub instances-sound : All (IsSoundInstance (design_of files found)) (enumerate_from 0 (design_of files found).instances)
  instances-sound =
      All-from_recursion (IsSoundInstance (design_of files found)) (enumerate_from 0 (design_of files found).instances)
      (each-numbered (IsSoundInstance (design_of files found)) (design_of files found).instances instance-sound)
