use Rattle.vital_base.specs.declared.place.Place.{Place}
use Rattle.vital_uses.specs.Statements.{processes}
use Rattle.vital_uses.proofs.PutLemmas.{of-processes, put-first}
use Rattle.vital_variables.specs.SecondUses.{used_again}
use Rattle.vital_variables.proofs.second_uses.clause_13.Goals as goal

pub returns : goal.returns
returns c =
    let cell = c.args.uses.now in
    put-first {B = Place} _ _ _ _ c.new-places.ensures.items c.in_ok-put_all_used_again.ensures
    (of-processes used_again cell c.processes.result.now (processes cell.arch) c.processes.ensures)
