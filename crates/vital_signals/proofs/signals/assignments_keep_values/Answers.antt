use Rattle.vital_signals.proofs.StateLemmas.{assignments_keep}
use Rattle.vital_signals.proofs.signals.assignments_keep_values.Goals as goal

pub returns : goal.returns
returns c = assignments_keep
