use Rattle.std.proofs.Common.{sym, ◌∙◌, ap}
use Rattle.vital_cell.specs.Scopes.{lent}
use Rattle.vital_cell.proofs.StandLemmas.{stands-bit, stands-no_bit}
use Rattle.vital_typed_cells.specs.Bits.{number_of}
use Rattle.vital_cell.proofs.numbered_levels.signal.Goals as goal

pub returns-in-Some : goal.returns-in-Some
returns-in-Some c =
    let k = lent c.args.scope.now in
    stands-bit k c.args.name.now c.in-Some.number (sym (c.in-Some.ensures.number ∙ ap (number_of k.bits) c.as_slice.ensures))

pub returns-in-None : goal.returns-in-None
returns-in-None c =
    let k = lent c.args.scope.now in
    stands-no_bit k c.args.name.now (sym (c.in-None.ensures.number ∙ ap (number_of k.bits) c.as_slice.ensures))
