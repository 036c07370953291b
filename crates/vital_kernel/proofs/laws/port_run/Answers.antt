use Rattle.vital_kernel.proofs.PortRuns.{port_run}
use Rattle.vital_kernel.proofs.laws.port_run.Goals as goal

pub returns : goal.returns
returns c = port_run
