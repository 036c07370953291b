use Rattle.std.proofs.Common.{◌≡◌, false, sym, ◌∙◌, ap}
use Rattle.std.specs.Prelude.{is_some}
use Rattle.std.specs.Option.{option_copied}
use Rattle.vital_names.specs.Declarations.{identifier_of, lent}
use Rattle.vital_names.specs.Meanings.{declared}
use Rattle.vital_names.specs.Redeclared.{own_site}
use Rattle.vital_names.specs.Words.{predeclared}
use Rattle.vital_names.proofs.FirstLemmas.{is_some-map, or-right}
use Rattle.vital_names.proofs.cell_names.CellNames.is_redeclared.Goals as goal

pub returns-else-is_some : goal.returns-else-is_some
returns-else-is_some c =
    let d = lent c.args.declared in
    let process = option_copied c.args.process in
    let named = c.as_slice-name.ensures ∙ ap (λ i. i.name) c.identifier-identifier.ensures in
    let absent : is_some (declared (identifier_of d).name c.args.self.now (own_site c.args.unit process d)) ≡ false =
    ap (λ i. is_some (declared (identifier_of d).name c.args.self.now (record { unit = c.args.unit; process = process; viewpoint = i.place }))) (sym c.identifier-identifier.ensures)
    ∙ ap (λ bs. is_some (declared bs c.args.self.now (record { unit = c.args.unit; process = process; viewpoint = c.identifier-identifier.result.now.place }))) (sym named)
    ∙ ap is_some (sym c.declared.ensures)
    ∙ is_some-map lent c.declared.result
    ∙ sym c.is_some.ensures
    ∙ c.if-is_some.false in
    c.is_some-else-is_some.ensures
    ∙ ap is_some (c.predeclared.ensures ∙ ap predeclared named)
    ∙ or-right _ _ absent
