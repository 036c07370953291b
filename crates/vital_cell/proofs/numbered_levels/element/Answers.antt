use Rattle.std.proofs.Common.{sym, ◌∙◌, ap}
use Rattle.vital_cell.specs.Scopes.{lent, names_of_variables}
use Rattle.vital_cell.proofs.StandLemmas.{stands-element, stands-no_element}
use Rattle.vital_typed_cells.specs.Bits.{number_of}
use Rattle.vital_cell.proofs.numbered_levels.element.Goals as goal

pub returns-in-Some : goal.returns-in-Some
returns-in-Some c =
    let k = lent c.args.scope.now in
    stands-element k c.args.name.now c.in-Some.number c.args.offset (sym (c.in-Some.ensures ∙ ap (number_of (names_of_variables k)) c.as_slice.ensures))

pub returns-in-None : goal.returns-in-None
returns-in-None c =
    let k = lent c.args.scope.now in
    stands-no_element k c.args.name.now c.args.offset (sym (c.in-None.ensures ∙ ap (number_of (names_of_variables k)) c.as_slice.ensures))
