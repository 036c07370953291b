-- The bits of the ports of a sound design are few, since they are signals.
use Rattle.std.proofs.Common.{◌≡◌, ℕ, zero, suc, ◌^◌, ◌≤◌, ◌<◌, List, [], ◌∷◌, length, take, sym, ap, ◌∙◌, arith}
use Rattle.std.proofs.lemmas.List.{length-map}
use Rattle.vital_base.specs.declared.ports.PortBit.{PortBit}
use Rattle.vital_netlist.specs.Designs.{Design}
use Rattle.vital_netlist.specs.Soundness.{IsSoundDesign, signal_bit_name}

take-within : {A : Type 0} (n : ℕ) (xs : List A) → length (take n xs) ≤ length xs
take-within zero xs = omega arith
take-within (suc n) [] = omega arith
take-within (suc n) (x ∷ xs) = omega (arith, take-within n xs)

pub few_ports : (d : Design) → IsSoundDesign d → length d.ports < 2 ^ 31
few_ports d sound =
    let first = take (length d.ports) d.signals in
    let same : length d.ports ≡ length first =
    sym (length-map d.ports (λ (p : PortBit). p.name)) ∙ ap (λ (names : List (List ℕ)). length names) sound.ports_first ∙ length-map first signal_bit_name in
    omega (arith, same, take-within (length d.ports) d.signals, sound.few_signals)
