use Rattle.std.proofs.Common.{ap}
use Rattle.vital_base.specs.declared.place.Place.{Place}
use Rattle.vital_uses.specs.Statements.{processes}
use Rattle.vital_uses.specs.Undeclared.{undeclared, undeclared_in, unknown_types}
use Rattle.vital_uses.proofs.PutLemmas.{of-processes, put-three}
use Rattle.vital_uses.proofs.cell_uses.CellUses.clause_16.Goals as goal

pub returns : goal.returns
returns c =
    let cell = c.args.self.now in
    put-three {B = Place} _ _ _ _ _ _ _ _ _ _ c.new-places.ensures.items
    c.in_ok-put_undeclared.ensures c.in_ok-put_undeclared_in.ensures c.in_ok-put_unknown_types.ensures
    (ap undeclared c.asked_outside.ensures)
    (of-processes undeclared_in cell c.processes.result.now (processes cell.arch) c.processes.ensures)
    (ap unknown_types c.types.ensures)
