-- The lists of a design, and that they are sound.
use Rattle.std.proofs.Common.{◌≡◌, ℕ, ◌^◌, ◌<◌, ◌≤◌, List, length, map, sym, subst, ◌∙◌, ap, arith}
use Rattle.std.specs.Prelude.{All, None}
use Rattle.std.specs.List.{filter_map}
use Rattle.std.specs.Option.{option_map}
use Rattle.vital_as_read.specs.Libraries.{IsFromText}
use Rattle.vital_base.specs.declared.ports.PortBit.{PortBit}
use Rattle.vital_nodes.specs.declared.unit.Units.{Units}
use Rattle.vital_typed_cells.specs.declared.typed_cell.TypedCell.{TypedCell}
use Rattle.vital_instances.specs.declared.instance.Instance.{Instance}
use Rattle.vital_instances.specs.Designs.{AreEntered}
use Rattle.vital_netlist.specs.Cells.{Netlist, cells}
use Rattle.vital_netlist.specs.declared.design_lists.DesignDriver.{DesignDriver}
use Rattle.vital_netlist.specs.Designs.{Design, DesignInstance, DesignSignal}
use Rattle.vital_netlist.specs.DesignDrivers.{all_driven_bits}
use Rattle.vital_netlist.specs.Elaboration.{TooManySignals, design_driver, design_instance, design_of, design_signal, fault_of_count, port_bits, wiring}
use Rattle.vital_netlist.specs.Soundness.{IsSoundDesign}
use Rattle.vital_netlist.specs.Nets.{place_too_many, signals}

abbrev design_with : List DesignInstance → List DesignSignal → List DesignDriver → List PortBit → List TypedCell → List (List ℕ) → Design
design_with is ss ds ps cs ws = record { instances = is; signals = ss; drivers = ds; ports = ps; cells = cs; wiring = ws }

-- those of a netlist
pub design-is : (files : List Units) (is : List Instance) (netlist of_cells : Netlist) (d : Design) → netlist ≡ record { files = files; instances = is } → of_cells ≡ record { files = files; instances = is } → d.instances ≡ map (design_instance files is) is → d.signals ≡ filter_map (design_signal netlist.files netlist.instances) (signals netlist.files netlist.instances) → d.drivers ≡ filter_map (design_driver netlist.files netlist.instances) (all_driven_bits netlist.files netlist.instances) → d.ports ≡ port_bits netlist.files netlist.instances → d.cells ≡ cells of_cells.files of_cells.instances → d.wiring ≡ wiring netlist.files netlist.instances → d ≡ design_of files is
design-is files is netlist of_cells d same same' instances' signals' drivers' ports' cells' wiring' =
    let wanted = design_of files is in
    ap (λ x. design_with x d.signals d.drivers d.ports d.cells d.wiring) instances'
    ∙ ap (λ x. design_with wanted.instances x d.drivers d.ports d.cells d.wiring) (signals' ∙ ap (λ (n : Netlist). filter_map (design_signal n.files n.instances) (signals n.files n.instances)) same)
    ∙ ap (λ x. design_with wanted.instances wanted.signals x d.ports d.cells d.wiring) (drivers' ∙ ap (λ (n : Netlist). filter_map (design_driver n.files n.instances) (all_driven_bits n.files n.instances)) same)
    ∙ ap (λ x. design_with wanted.instances wanted.signals wanted.drivers x d.cells d.wiring) (ports' ∙ ap (λ (n : Netlist). port_bits n.files n.instances) same)
    ∙ ap (λ x. design_with wanted.instances wanted.signals wanted.drivers wanted.ports x d.wiring) (cells' ∙ ap (λ (n : Netlist). cells n.files n.instances) same')
    ∙ ap (λ x. design_with wanted.instances wanted.signals wanted.drivers wanted.ports wanted.cells x) (wiring' ∙ ap (λ (n : Netlist). wiring n.files n.instances) same)

-- these are sound, where there are not too many drivers
pub design-sound : (files : List Units) (is : List Instance) (netlist : Netlist) (d : Design) (found : List DesignDriver) → ((fs : List Units) (js : List Instance) → All IsFromText fs → AreEntered fs js → fault_of_count fs js ≡ None → length (design_of fs js).drivers < 2 ^ 31 → IsSoundDesign (design_of fs js)) → All IsFromText files → AreEntered files is → netlist ≡ record { files = files; instances = is } → place_too_many netlist.files netlist.instances ≡ None → found ≡ filter_map (design_driver netlist.files netlist.instances) (all_driven_bits netlist.files netlist.instances) → length found ≤ 2147483647 → d ≡ design_of files is → IsSoundDesign d
design-sound files is netlist d found law read entered same few drivers' room made =
    let none : fault_of_count files is ≡ None =
    ap (option_map TooManySignals) (ap (λ (n : Netlist). place_too_many n.files n.instances) (sym same) ∙ few) in
    let all : found ≡ (design_of files is).drivers = drivers' ∙ ap (λ (n : Netlist). filter_map (design_driver n.files n.instances) (all_driven_bits n.files n.instances)) same in
    let most : length (design_of files is).drivers < 2147483648 = subst (λ (ds : List DesignDriver). length ds < 2147483648) all (omega arith) in
    subst IsSoundDesign (sym made) (law files is read entered none most)
