use Rattle.vital_kernel.proofs.SomeRun.{one_run_from}
use Rattle.vital_kernel.proofs.laws.one_run_from.Goals as goal

pub returns : goal.returns
returns c = one_run_from
