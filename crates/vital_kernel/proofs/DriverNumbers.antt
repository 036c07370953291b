-- An instance of a cell has as many drivers as statements of its cell drive something: the numbers of drivers in effects are those of the
-- drivers of its design.
use Rattle.std.proofs.Common.{◌≡◌, ℕ, suc, ◌+◌, List, [], ◌∷◌, ◌++◌, length, map, take, drop, refl, ap, sym, ◌∙◌, length-append, arith}
use Rattle.std.specs.List.{flat_map, sum_by}
use Rattle.std.proofs.lemmas.List.{length-map}
use Rattle.std.proofs.lemmas.List.Sums.{sum_by-append, sum_by-cons}
use Rattle.vital_cell.specs.Execution.{Executed, Process', Wire, drivers_of}
use Rattle.vital_netlist.specs.CellDrivers.{driven, driven_by}
use Rattle.vital_typed_cells.specs.declared.process.CellProcess.{CellProcess}
use Rattle.vital_typed_cells.specs.declared.typed_cell.TypedCell.{TypedCell}
use Rattle.vital_typed_cells.specs.declared.wire.WireDelay.{WireDelay}
use Rattle.vital_kernel.specs.DesignNetworks.{driver_count}

of_processes : (ps : List CellProcess) → sum_by drivers_of (map (λ p. Process' p) ps) ≡ length (flat_map driven_by ps)
of_processes [] = refl
of_processes (p ∷ ps) =
    let one : length (driven_by p) ≡ length p.sections.path_delays = length-map p.sections.path_delays (λ d. d.out_signal) in
    sum_by-cons drivers_of (Process' p) (map (λ q. Process' q) ps)
    ∙ ap (λ (n : ℕ). length p.sections.path_delays + n) (of_processes ps)
    ∙ ap (λ (n : ℕ). n + length (flat_map driven_by ps)) (sym one)
    ∙ sym (length-append (driven_by p) (flat_map driven_by ps))

of_wires : (ws : List WireDelay) → sum_by drivers_of (map (λ w. Wire w) ws) ≡ length (map (λ w. w.signal) ws)
of_wires [] = refl
of_wires (w ∷ ws) =
    let one : 1 + length (map (λ (v : WireDelay). v.signal) ws) ≡ suc (length (map (λ (v : WireDelay). v.signal) ws)) = omega arith in
    sum_by-cons drivers_of (Wire w) (map (λ v. Wire v) ws) ∙ ap (λ (n : ℕ). 1 + n) (of_wires ws) ∙ one

pub drivers_agree : (c : TypedCell) → driver_count c ≡ length (driven c)
drivers_agree c =
    let front = take c.processes_before_wires c.processes in
    let back = drop c.processes_before_wires c.processes in
    let before : List Executed = map (λ p. Process' p) front in
    let wires : List Executed = map (λ w. Wire w) c.wires in
    let behind : List Executed = map (λ p. Process' p) back in
    let signals : List (List ℕ) = map (λ w. w.signal) c.wires in
    let counted : driver_count c ≡ sum_by drivers_of before + sum_by drivers_of wires + sum_by drivers_of behind =
    sum_by-append drivers_of (before ++ wires) behind ∙ ap (λ (n : ℕ). n + sum_by drivers_of behind) (sum_by-append drivers_of before wires) in
    let named : length (driven c) ≡ length (flat_map driven_by front) + length signals + length (flat_map driven_by back) =
    length-append (flat_map driven_by front ++ signals) (flat_map driven_by back)
    ∙ ap (λ (n : ℕ). n + length (flat_map driven_by back)) (length-append (flat_map driven_by front) signals) in
    omega (arith, counted, named, of_processes front, of_wires c.wires, of_processes back)
