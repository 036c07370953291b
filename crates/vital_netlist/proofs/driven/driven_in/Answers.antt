use Rattle.std.proofs.Common.{List, ◌++◌, map, take, drop, ap, ◌∙◌}
use Rattle.std.specs.List.{filter_map, flat_map}
use Rattle.vital_typed_cells.specs.Bits.{number_of}
use Rattle.vital_typed_cells.specs.declared.process.CellProcess.{CellProcess}
use Rattle.vital_typed_cells.specs.declared.wire.WireDelay.{WireDelay}
use Rattle.vital_netlist.specs.CellDrivers.{driven_by}
use Rattle.vital_netlist.proofs.DrivenLemmas.{all-statements}
use Rattle.vital_netlist.proofs.driven.driven_in.Goals as goal

pub returns : goal.returns
returns c =
    let g = number_of c.args.bits.now in
    let n = c.args.cell.now.processes_before_wires in
    let ps = c.args.cell.now.processes in
    let none = c.new-driven.result.items in
    let first = c.put_processes.new.driven.items in
    let second = c.put_wires.new.driven.items in
    all-statements g (flat_map driven_by (take n ps)) (map (λ (w : WireDelay). w.signal) c.args.cell.now.wires) (flat_map driven_by (drop n ps)) none first second c.put_processes-2.new.driven.items
    c.new-driven.ensures.items
    (c.in_ok-put_processes.ensures ∙ ap (λ (qs : List CellProcess). none ++ filter_map g (flat_map driven_by qs)) (c.first_of.ensures ∙ ap (λ (qs : List CellProcess). take n qs) c.as_slice-processes.ensures))
    (c.in_ok-put_wires.ensures ∙ ap (λ (ws : List WireDelay). first ++ filter_map g (map (λ (w : WireDelay). w.signal) ws)) c.as_slice.ensures)
    (c.in_ok-put_processes-2.ensures ∙ ap (λ (qs : List CellProcess). second ++ filter_map g (flat_map driven_by qs)) (c.others_of.ensures ∙ ap (λ (qs : List CellProcess). drop n qs) c.as_slice-processes.ensures))
