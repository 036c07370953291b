use Rattle.std.proofs.Common.{◌≡◌, ◌<◌, List, length, get_or, sym, ap, ◌∙◌, subst}
use Rattle.std.proofs.lemmas.Result.{IfOk-weaker}
use Rattle.std.specs.Prelude.{All}
use Rattle.vital_typed_cells.specs.declared.typed_cell.TypedCell.{TypedCell}
use Rattle.vital_netlist.specs.Cells.{cells}
use Rattle.vital_netlist.proofs.CellLemmas.{same-packages}
use Rattle.vital_netlist.proofs.cells.Cells.package_levels.Goals as goal

pub returns-in-Some-clause-all : goal.returns-in-Some-clause-all
returns-in-Some-clause-all c =
    let files = c.args.self.now.files in
    let is = c.args.self.now.instances in
    let cs = cells files is in
    let there : 0 < length cs = subst (λ (xs : List TypedCell). 0 < length xs) c.all.ensures c.in-Some.ensures.item.3.0 in
    let first : c.in-Some.cell.now ≡ get_or cs 0 c.in-Some.cell.now = c.in-Some.ensures.item.1 ∙ ap (λ (xs : List TypedCell). get_or xs 0 c.in-Some.cell.now) c.all.ensures in
    let own = c.as_slice.ensures ∙ c.get.ensures ∙ ap (λ (t : TypedCell). t.packages) (c.cell.ensures.value ∙ first) ∙ same-packages files is 0 c.in-Some.cell.now there in
    IfOk-weaker c.levels_of_packages.result (λ levels. levels ≡ c.as_slice.result.now) (λ levels. All (λ (t : TypedCell). t.packages ≡ levels) cs)
    (λ levels same. λ k d inside. same-packages files is k d inside ∙ sym (same ∙ own)) c.levels_of_packages.ensures
