use Rattle.vital_base.specs.declared.place.Place.{Place}
use Rattle.vital_uses.specs.Reads.{unlisted}
use Rattle.vital_uses.specs.Statements.{processes}
use Rattle.vital_uses.proofs.PutLemmas.{of-processes, put-first}
use Rattle.vital_uses.proofs.cell_uses.CellUses.clause_8.Goals as goal

pub returns : goal.returns
returns c =
    let cell = c.args.self.now in
    put-first {B = Place} _ _ _ _ c.new-places.ensures.items c.in_ok-put_all_unlisted.ensures
    (of-processes unlisted cell c.processes.result.now (processes cell.arch) c.processes.ensures)
