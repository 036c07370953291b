use Rattle.std.proofs.Common.{List, [], map, refl, sym, ap, subst, ◌∙◌, arith}
use Rattle.std.proofs.lemmas.List.Elements.{All-nil}
use Rattle.std.specs.List.{enumerate_from}
use Rattle.vital_base.specs.declared.ports.PortBit.{PortBit}
use Rattle.vital_kernel.specs.Alike.{AreAlike, IsAlike}
use Rattle.vital_kernel.specs.DesignNetworks.{stimulus_driver}
use Rattle.vital_kernel.specs.Networks.{lent_cell}
use Rattle.vital_kernel.specs.Soundness.{IsSoundNetwork}
use Rattle.vital_kernel.specs.declared.network.NetCell.{NetCell}
use Rattle.vital_kernel.proofs.SoundNetworks.{ports-made, ports-sound}
use Rattle.vital_kernel.proofs.network.Network.of_ports.Goals as goal

pub invariant_of-result : goal.invariant_of-result
invariant_of-result c =
    let ports = c.into_vec-ports.result.items in
    let few = c.in_ok-first_behind.ensures.few in
    let driven = c.in_ok-stimulus_drivers.ensures ∙ ap (λ (bits : List PortBit). map stimulus_driver (enumerate_from 0 bits)) c.deref.ensures.value in (
      subst IsSoundNetwork
          (sym (ports-made ports c.in_ok-port_signals.field-0.items c.in_ok-stimulus_drivers.stimulus_drivers.items [] (map lent_cell c.new.result.items)
          c.in_ok-port_signals.ensures driven refl (ap (λ (cells : List NetCell). map lent_cell cells) c.new.ensures.items)))
          (ports-sound ports (omega (arith, few))),
      subst AreAlike (sym c.new.ensures.items) (All-nil (IsAlike [])),
    )
