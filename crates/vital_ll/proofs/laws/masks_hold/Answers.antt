use Rattle.vital_ll.proofs.ByTables.{mask_holds}
use Rattle.vital_ll.proofs.laws.masks_hold.Goals as goal

pub returns : goal.returns
returns c = mask_holds
