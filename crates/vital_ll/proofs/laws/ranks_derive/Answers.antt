use Rattle.vital_ll.proofs.ByTables.{well_formed_by_ranks}
use Rattle.vital_ll.proofs.laws.ranks_derive.Goals as goal

pub returns : goal.returns
returns c = well_formed_by_ranks
