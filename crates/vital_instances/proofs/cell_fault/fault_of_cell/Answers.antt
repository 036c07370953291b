use Rattle.vital_instances.proofs.JudgeLemmas.{said-of}
use Rattle.vital_instances.proofs.cell_fault.fault_of_cell.Goals as goal

pub returns : goal.returns
returns c = said-of c.one_first_breach.ensures _ _ c.in_ok-fault.ensures
