use Rattle.std.proofs.Common.{◌≡◌, ℕ, ◌+◌, List, length, IfOk, ap, subst, sym, zero-add, ◌∙◌}
use Rattle.std.specs.List.{sum_by}
use Rattle.vital_kernel.proofs.DriverCounts.{count-is, path_delays_of}
use Rattle.vital_kernel.proofs.counts.driver_count.Goals as goal
use Rattle.vital_typed_cells.specs.declared.process.CellProcess.{CellProcess}
use Rattle.vital_typed_cells.specs.declared.wire.WireDelay.{WireDelay}

pub returns : goal.returns
returns c =
    let cell = c.args.cell.now in
    let processes = c.as_slice-2.result.now in
    let wires = c.in_ok-wires.ensures ∙ zero-add _ ∙ ap (λ (ws : List WireDelay). length ws) c.as_slice.ensures in
    let counted = ap (λ (n : ℕ). n + sum_by path_delays_of processes) wires ∙ ap (λ (ps : List CellProcess). length cell.wires + sum_by path_delays_of ps) c.as_slice-2.ensures ∙ sym (count-is cell) in
    subst (λ (m : ℕ). IfOk c.with_path_delays.result (λ n. n ≡ m)) counted c.with_path_delays.ensures
