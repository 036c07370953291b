use Rattle.std.proofs.Common.{◌≡◌, ℕ, ◌∙◌, List, IfOk, ap, subst, sym}
use Rattle.vital_netlist.specs.CellDrivers.{driven_numbers}
use Rattle.vital_netlist.proofs.DesignUnitLemmas.{driven_cell, driven_net}
use Rattle.vital_netlist.proofs.unit.driven_of.Goals as goal

pub returns-in-Some : goal.returns-in-Some
returns-in-Some c =
    let found = c.requires.found in
    let same = driven_cell c.args.cells.now.files c.args.entity c.in-Some.cell.now c.requires.unit (λ u at. c.in-Some.ensures.unit found.0 found.1 u found.2 found.3 at) in
    let P : List ℕ → Type 0 = λ ns. IfOk c.driven_numbers.result (λ found. found.items ≡ ns) in
    subst P (ap driven_numbers c.cell.ensures.value ∙ sym same) c.driven_numbers.ensures

pub returns-in-None : goal.returns-in-None
returns-in-None c =
    let found = c.requires.found in
    c.new.ensures.items
    ∙ sym (driven_net c.args.cells.now.files c.args.entity (λ u at. c.in-None.ensures.unit found.0 found.1 u found.2 found.3 at))
