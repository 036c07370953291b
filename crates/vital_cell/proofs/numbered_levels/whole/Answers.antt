use Rattle.std.proofs.Common.{sym, ◌∙◌, ap}
use Rattle.vital_machine.specs.declared.trees.VectorTree.TheVariants as vectors
use Rattle.vital_machine.specs.Trees.{vector}
use Rattle.vital_cell.specs.Scopes.{lent, names_of_variables}
use Rattle.vital_cell.proofs.StandLemmas.{stands-no_vector, stands-whole}
use Rattle.vital_typed_cells.specs.Bits.{number_of}
use Rattle.vital_cell.proofs.numbered_levels.whole.Goals as goal

pub returns-in-Some : goal.returns-in-Some
returns-in-Some c =
    let k = lent c.args.scope.now in
    stands-whole k c.args.name.now c.in-Some.number (sym (c.in-Some.ensures ∙ ap (number_of (names_of_variables k)) c.as_slice.ensures))

pub returns-in-None : goal.returns-in-None
returns-in-None c = λ n s fits.
    let k = lent c.args.scope.now in
    ap (λ ls. vector s (vectors.Literal ls)) c.new.ensures
    ∙ stands-no_vector k c.args.name.now (sym (c.in-None.ensures ∙ ap (number_of (names_of_variables k)) c.as_slice.ensures)) n s fits
