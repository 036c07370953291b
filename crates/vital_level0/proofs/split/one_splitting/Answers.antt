use Rattle.vital_level0.proofs.SplitLemmas.{one-split}
use Rattle.vital_level0.proofs.split.one_splitting.Goals as goal

pub returns : goal.returns
returns c = one-split
