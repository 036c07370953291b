-- The network of ports alone.
use Rattle.std.proofs.Common.{◌≡◌, ℕ, ◌+◌, ◌<◌, true, List, [], ◌∷◌, length, filter, map, refl, ap, subst, ◌∙◌, arith}
use Rattle.std.specs.List.{enumerate_from}
use Rattle.vital_base.specs.declared.ports.PortBit.{PortBit}
use Rattle.vital_netlist.specs.declared.design_lists.DesignDriver.{DesignDriver}
use Rattle.vital_stim.specs.declared.stimuli.StimLine.{StimLine}
use Rattle.vital_kernel.specs.DesignNetworks.{is_stimulated, signal_of, stimulus_driver, stimulus_drivers}
use Rattle.vital_kernel.specs.Networks.{Network}
use Rattle.vital_kernel.specs.declared.network.NetSignal.{NetSignal}
use Rattle.vital_kernel.specs.PortNetworks.{IsOfDesign, port_design, port_signal, signal_in_design}
use Rattle.vital_base.specs.declared.watch.Watch.TheVariants.{All}

-- where all ports are named, none is left out
all_kept : (k : ℕ) (ps : List PortBit) (lines : List StimLine) → ((j : ℕ) → j < length ps → is_stimulated lines (k + j) ≡ true) → filter (λ p. is_stimulated lines p.0) (enumerate_from k ps) ≡ enumerate_from k ps
all_kept k [] lines h = refl
all_kept k (p ∷ ps) lines h =
    let first : k + 0 ≡ k = omega arith in
    let here : is_stimulated lines k ≡ true = subst (λ (i : ℕ). is_stimulated lines i ≡ true) first (h 0 (omega arith)) in
    let later = all_kept (k + 1) ps lines (λ j lt. subst (λ (i : ℕ). is_stimulated lines i ≡ true) (shift k j) (h (j + 1) (omega (arith, lt)))) in
    rw here (ap (λ (rest : List (ℕ × PortBit)). (k, p) ∷ rest) later)
  where
    shift : (k j : ℕ) → k + (j + 1) ≡ (k + 1) + j
    shift k j = omega arith

signals_are : (ports : List PortBit) (k : ℕ) (ps : List PortBit) → map (signal_of (port_design ports) All) (enumerate_from k (map signal_in_design ps)) ≡ map port_signal ps
signals_are ports k [] = refl
signals_are ports k (p ∷ ps) = ap (λ (rest : List NetSignal). port_signal p ∷ rest) (signals_are ports (k + 1) ps)

abbrev network_with : List NetSignal → List DesignDriver → Network
network_with signals drivers = record { signals = signals; stimulus_drivers = drivers; cell_drivers = []; cells = [] }

pub of_design : (ports : List PortBit) (lines : List StimLine) → ((i : ℕ) → i < length ports → is_stimulated lines i ≡ true) → IsOfDesign ports lines
of_design ports lines named =
    ap (λ (ss : List NetSignal). network_with ss (stimulus_drivers ports lines)) (signals_are ports 0 ports)
    ∙ ap (λ (kept : List (ℕ × PortBit)). network_with (map port_signal ports) (map stimulus_driver kept))
    (all_kept 0 ports lines (λ j lt. subst (λ (i : ℕ). is_stimulated lines i ≡ true) (from_zero j) (named j lt)))
  where
    from_zero : (j : ℕ) → j ≡ 0 + j
    from_zero j = omega arith
