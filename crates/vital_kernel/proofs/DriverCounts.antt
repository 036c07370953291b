-- How many drivers an instance of a cell has, counted over its wires and its processes.
use Rattle.std.proofs.Common.{◌≡◌, ℕ, suc, ◌+◌, List, [], ◌∷◌, ◌++◌, length, map, take, drop, refl, sym, ap, ◌∙◌, arith}
use Rattle.std.specs.List.{sum_by}
use Rattle.std.proofs.lemmas.List.Sums.{sum_by-append, sum_by-cons, sum_by-take-drop}
use Rattle.vital_cell.specs.Execution.{Executed, Process', Wire, drivers_of}
use Rattle.vital_kernel.specs.DesignNetworks.{driver_count}
use Rattle.vital_typed_cells.specs.declared.process.CellProcess.{CellProcess}
use Rattle.vital_typed_cells.specs.declared.typed_cell.TypedCell.{TypedCell}
use Rattle.vital_typed_cells.specs.declared.wire.WireDelay.{WireDelay}

abbrev pub path_delays_of : CellProcess → ℕ
path_delays_of p = length p.sections.path_delays

of-processes : (ps : List CellProcess) → sum_by drivers_of (map (λ p. Process' p) ps) ≡ sum_by path_delays_of ps
of-processes [] = refl
of-processes (p ∷ ps) =
    sum_by-cons drivers_of (Process' p) (map (λ q. Process' q) ps)
    ∙ ap (λ (n : ℕ). length p.sections.path_delays + n) (of-processes ps)
    ∙ sym (sum_by-cons path_delays_of p ps)

of-wires : (ws : List WireDelay) → sum_by drivers_of (map (λ w. Wire w) ws) ≡ length ws
of-wires [] = refl
of-wires (w ∷ ws) =
    let one : 1 + length ws ≡ suc (length ws) = omega arith in
    sum_by-cons drivers_of (Wire w) (map (λ v. Wire v) ws) ∙ ap (λ (n : ℕ). 1 + n) (of-wires ws) ∙ one

pub count-is : (c : TypedCell) → driver_count c ≡ length c.wires + sum_by path_delays_of c.processes
count-is c =
    let front = take c.processes_before_wires c.processes in
    let back = drop c.processes_before_wires c.processes in
    let before : List Executed = map (λ p. Process' p) front in
    let wires : List Executed = map (λ w. Wire w) c.wires in
    let behind : List Executed = map (λ p. Process' p) back in
    let counted : driver_count c ≡ sum_by drivers_of before + sum_by drivers_of wires + sum_by drivers_of behind =
    sum_by-append drivers_of (before ++ wires) behind ∙ ap (λ (n : ℕ). n + sum_by drivers_of behind) (sum_by-append drivers_of before wires) in
    omega (arith, counted, of-processes front, of-wires c.wires, of-processes back, sum_by-take-drop path_delays_of c.processes c.processes_before_wires)
