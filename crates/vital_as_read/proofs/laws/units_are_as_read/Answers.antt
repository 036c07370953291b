use Rattle.vital_as_read.proofs.Reading.{file_as_read}
use Rattle.vital_as_read.proofs.laws.units_are_as_read.Goals as goal

pub returns : goal.returns
returns c = file_as_read c.walked_in_preorder.ensures
