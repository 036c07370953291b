use Rattle.vital_cell.proofs.ProcessLemmas.{process-kept}
use Rattle.vital_cell.proofs.laws.steps_keep_kinds.Goals as goal

pub returns : goal.returns
returns c = process-kept
