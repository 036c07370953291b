use Rattle.std.proofs.Common.{List, ◌++◌, ◌∷◌, [], map, take, drop, ap, ◌∙◌}
use Rattle.std.specs.Prelude.{slice_get, unwrap_or}
use Rattle.std.specs.List.{filter_map}
use Rattle.vital_kernel.proofs.SensitivityLemmas.{cell-put, of_process, on-ok}
use Rattle.vital_kernel.proofs.sensitivities.put_cell.Goals as goal
use Rattle.vital_kernel.specs.Networks.{lent_cell}
use Rattle.vital_typed_cells.specs.Bits.{names_of, number_of}
use Rattle.vital_typed_cells.specs.declared.process.CellProcess.{CellProcess}
use Rattle.vital_typed_cells.specs.declared.typed_cell.TypedCell.{TypedCell}

pub returns : goal.returns
returns c =
    let cell = lent_cell c.args.cell.now in
    let wires = c.args.cell.now.wires.now in
    let tree = c.cell-tree.result.now in
    let old = c.args.all.now.items in
    let first = c.put_processes.new.all.items in
    let second = c.put_wires.new.all.items in
    let new = c.put_processes-2.new.all.items in
    let front =
    c.first_of.ensures ∙ ap (λ (ps : List CellProcess). take tree.processes_before_wires ps) c.as_slice-processes.ensures
    ∙ ap (λ (t : TypedCell). take t.processes_before_wires t.processes) c.cell-tree.ensures.value in
    let back =
    c.others_of.ensures ∙ ap (λ (ps : List CellProcess). drop tree.processes_before_wires ps) c.as_slice-processes.ensures
    ∙ ap (λ (t : TypedCell). drop t.processes_before_wires t.processes) c.cell-tree.ensures.value in
    let one = c.in_ok-put_processes.ensures ∙ ap (λ (ps : List CellProcess). old ++ map (of_process wires) ps) front in
    let two =
    c.in_ok-put_wires.ensures
    ∙ ap (λ (t : TypedCell). first ++ map (λ w. filter_map (slice_get wires) (unwrap_or (number_of (names_of t.ports t.signals) w.port) 0 ∷ [])) t.wires) c.cell-tree.ensures.value in
    on-ok c.put_processes-2.result
    (λ put. cell-put cell old first second new one two (put ∙ ap (λ (ps : List CellProcess). second ++ map (of_process wires) ps) back)) c.put_processes-2.ensures
