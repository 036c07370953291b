-- The instances and the signals of a design are few.
use Rattle.std.proofs.Common.{◌≡◌, ◌^◌, ◌≤◌, ◌<◌, List, length, sym, ap, ◌∙◌, inl, inr, arith}
use Rattle.std.specs.Prelude.{◌⊎◌, Option, Some, None}
use Rattle.std.specs.List.{slice_get}
use Rattle.std.specs.Option.{option_and_then, option_map}
use Rattle.std.proofs.lemmas.Bool.{cases_lt}
use Rattle.std.proofs.lemmas.List.{length-map}
use Rattle.vital_connections.specs.Objects.{Object}
use Rattle.vital_netlist.specs.Elaboration.{TooManySignals, design_instance, design_of, fault_of_count}
use Rattle.vital_instances.specs.declared.instance.Instance.{Instance}
use Rattle.vital_instances.specs.Designs.{IsUnderTop}
use Rattle.vital_netlist.specs.declared.bit.Bit.{Bit}
use Rattle.vital_netlist.specs.Bits.{object_of}
use Rattle.vital_netlist.specs.Nets.{signals}
use Rattle.vital_nodes.specs.declared.unit.Units.{Units}
use Rattle.vital_netlist.proofs.Bits.{IsThere}
use Rattle.vital_netlist.proofs.Lists.{each-get}
use Rattle.vital_netlist.proofs.Nets.{within-get}
use Rattle.vital_netlist.proofs.SignalParts.{object-is, signal-count, signals-there}
use Rattle.vital_netlist.proofs.UnitFacts.{Known}
use Rattle.vital_netlist.proofs.UnitNames.{Read}

pub few-instances : (files : List Units) (found : List Instance) → length found ≤ 16384 → length (design_of files found).instances < 2 ^ 31
few-instances files found few = omega (arith, length-map found (design_instance files found), few)

module _ (files : List Units) (found : List Instance) (known : Known files found) (read : Read files) (top : IsUnderTop found) where
  one-too-many : (b : Bit) → slice_get (signals files found) 65536 ≡ Some b → IsThere files found b → fault_of_count files found ≡ None → ⊥
  one-too-many b at there none =
      let is : fault_of_count files found ≡ Some (TooManySignals there.object.place) =
      ap (λ (x : Option Bit). option_map TooManySignals (option_map (λ (o : Object). o.place) (option_and_then (object_of files found) x))) at
      ∙ ap (λ (x : Option Object). option_map TooManySignals (option_map (λ (o : Object). o.place) x)) (object-is files found known read top b there) in
      let never : Some (TooManySignals there.object.place) ≡ None = sym is ∙ none in
      cc

  by-count : (65536 < length (signals files found)) ⊎ (length (signals files found) ≤ 65536) → fault_of_count files found ≡ None → length (signals files found) ≤ 65536
  by-count (inl below) none =
      let b = within-get (signals files found) 65536 below in
      absurd (one-too-many b.0 b.1 (each-get (IsThere files found) (signals files found) 65536 b.0 (signals-there files found known read top) b.1) none)
  by-count (inr few) none = few

  pub few-signals : fault_of_count files found ≡ None → length (design_of files found).signals < 2 ^ 31
  few-signals none = omega (arith, signal-count files found known read top, by-count (cases_lt 65536 (length (signals files found))) none)
