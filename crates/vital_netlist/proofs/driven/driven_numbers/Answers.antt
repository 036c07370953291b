use Rattle.std.proofs.Common.{◌≡◌, ◌∙◌, ap, subst}
use Rattle.std.specs.Prelude.{IfOk}
use Rattle.std.specs.List.{filter_map}
use Rattle.vital_typed_cells.specs.Bits.{names_of, number_of}
use Rattle.vital_netlist.specs.CellDrivers.{driven}
use Rattle.vital_netlist.proofs.driven.driven_numbers.Goals as goal

pub returns : goal.returns
returns c =
    let cell = c.args.cell.now in
    let named : c.in_ok-bits.bits ≡ names_of cell.ports cell.signals =
    c.in_ok-bits.ensures ∙ ap (λ ports. names_of ports c.as_slice-2.result.now) c.as_slice.ensures ∙ ap (names_of cell.ports) c.as_slice-2.ensures in
    subst (λ names. IfOk c.driven_in.result (λ numbers. numbers.items ≡ filter_map (number_of names) (driven cell))) named c.driven_in.ensures
