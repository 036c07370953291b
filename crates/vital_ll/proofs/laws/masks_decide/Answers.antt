use Rattle.vital_ll.proofs.ByTables.{predictive_by_masks}
use Rattle.vital_ll.proofs.laws.masks_decide.Goals as goal

pub returns : goal.returns
returns c = predictive_by_masks
