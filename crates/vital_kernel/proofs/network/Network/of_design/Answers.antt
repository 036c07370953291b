use Rattle.std.proofs.Common.{◌≡◌, ℕ, ◌+◌, ◌^◌, ◌<◌, List, length, map, sym, ap, subst, ◌∙◌, arith}
use Rattle.std.specs.Borrow.{Bor}
use Rattle.vital_base.specs.declared.ports.PortBit.{PortBit}
use Rattle.vital_netlist.specs.declared.design_lists.DesignDriver.{DesignDriver}
use Rattle.vital_kernel.specs.DesignNetworks.{cells_from, placed_cells, stimulus_drivers}
use Rattle.vital_kernel.specs.Networks.{lent_cell}
use Rattle.vital_kernel.specs.Soundness.{IsSoundNetwork}
use Rattle.vital_kernel.proofs.SoundNetworks.{as-many-placed, as-many-values, design-sound, fit-lent, network-made}
use Rattle.vital_kernel.proofs.network.Network.of_design.Goals as goal
use Rattle.vital_timing.specs.declared.delay.Delay.{Delay}

pub cells_of-requires-clause-values : goal.cells_of-requires-clause-values
cells_of-requires-clause-values c = as-many-values (placed_cells c.args.design.now) c.args.values.now c.requires.fit

pub cells_of-requires-clause-wiring : goal.cells_of-requires-clause-wiring
cells_of-requires-clause-wiring c =
    ap (λ (ws : List (List ℕ)). length ws) c.wiring.ensures.wiring ∙ as-many-placed c.args.design.now c.wiring.ensures.sound

pub invariant_of-result : goal.invariant_of-result
invariant_of-result c =
    let d = c.args.design.now in
    let lines = c.args.lines.now in
    let values : List (List Delay) = map (λ (v : Bor (List Delay)). v.now) c.args.values.now in
    let stimulated = c.in_ok-stimulus_drivers.stimulus_drivers.items in
    let first = c.in_ok-first.first in
    let stimuli = c.in_ok-stimulus_drivers.ensures ∙ ap (λ (ports : List PortBit). stimulus_drivers ports lines) (c.as_slice.ensures ∙ c.ports.ensures.ports) in
    let is-first : first ≡ length stimulated = omega (arith, c.in_ok-first.ensures.first, c.len.ensures, c.in_ok-stimulus_drivers.stimulus_drivers.ok.0) in
    let cells = c.in_ok-cells_of.ensures.cells ∙ ap (λ (ws : List (List ℕ)). cells_from d first (placed_cells d) values ws) c.wiring.ensures.wiring in
    let few : length (stimulus_drivers d.ports lines) + length d.drivers < 2 ^ 31 =
    omega (
      arith,
      c.in_ok-first.ensures.few,
      c.len.ensures,
      c.in_ok-stimulus_drivers.stimulus_drivers.ok.0,
      ap (λ (ds : List DesignDriver). length ds) stimuli,
      ap (λ (ds : List DesignDriver). length ds) c.drivers.ensures,
    ) in (
      subst IsSoundNetwork
          (sym (network-made d values lines c.args.watch c.in_ok-signals_of.field-0.items stimulated c.drivers-2.result.now (map lent_cell c.in_ok-cells_of.field-0.items) first
          c.in_ok-signals_of.ensures stimuli c.drivers-2.ensures is-first cells))
          (design-sound d values lines c.args.watch c.wiring.ensures.sound (fit-lent (placed_cells d) c.args.values.now c.requires.fit) few),
      c.in_ok-cells_of.ensures.alike,
    )
