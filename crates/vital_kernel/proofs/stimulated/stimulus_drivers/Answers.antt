use Rattle.std.proofs.Common.{◌≡◌, Bool, List, length, IfOk, ap, subst, ◌∙◌}
use Rattle.std.proofs.lemmas.List.FromFn.{length-map-range_with_len}
use Rattle.vital_netlist.specs.declared.design_lists.DesignDriver.{DesignDriver}
use Rattle.vital_kernel.specs.DesignNetworks.{is_stimulated}
use Rattle.vital_kernel.proofs.PortsNamed.{drivers-of-named}
use Rattle.vital_kernel.proofs.stimulated.stimulus_drivers.Goals as goal

pub drivers_of_named-requires : goal.drivers_of_named-requires
drivers_of_named-requires c =
    ap (λ (named : List Bool). length named) (c.deref.ensures.value ∙ c.in_ok-named.ensures)
    ∙ length-map-range_with_len (is_stimulated c.args.lines.now) 0 (length c.args.ports.now)

pub returns : goal.returns
returns c =
    subst (λ (all : List DesignDriver). IfOk c.drivers_of_named.result (λ drivers. drivers.items ≡ all))
    (drivers-of-named c.args.ports.now c.args.lines.now c.deref.result.now (c.deref.ensures.value ∙ c.in_ok-named.ensures)) c.drivers_of_named.ensures
