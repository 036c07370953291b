use Rattle.vital_kernel.proofs.PortNetworks.{of_design}
use Rattle.vital_kernel.proofs.laws.ports_are_a_design.Goals as goal

pub returns : goal.returns
returns c = of_design
