use Rattle.vital_cell.proofs.ProcessLemmas.{process-stands}
use Rattle.vital_cell.proofs.laws.steps_stand.Goals as goal

pub returns : goal.returns
returns c = process-stands
