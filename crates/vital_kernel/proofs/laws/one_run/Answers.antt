use Rattle.vital_kernel.proofs.SomeRun.{one_whole_run}
use Rattle.vital_kernel.proofs.laws.one_run.Goals as goal

pub returns : goal.returns
returns c = one_whole_run
