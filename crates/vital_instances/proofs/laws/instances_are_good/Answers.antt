use Rattle.vital_instances.proofs.DesignLemmas.{cells-good, children-there, contents-good, few-found, parents-before, under-top, units-there}
use Rattle.vital_instances.proofs.FilledLemmas.{all-filled}
use Rattle.vital_instances.proofs.laws.instances_are_good.Goals as goal

pub returns-clause-few : goal.returns-clause-few
returns-clause-few c files found are = few-found files found are

pub returns-clause-top : goal.returns-clause-top
returns-clause-top c files found are = under-top files found are

pub returns-clause-parents : goal.returns-clause-parents
returns-clause-parents c files found are = parents-before files found are

pub returns-clause-children : goal.returns-clause-children
returns-clause-children c files found are = children-there files found are

pub returns-clause-all : goal.returns-clause-all
returns-clause-all c files found are = all-filled files found are

pub returns-clause-units : goal.returns-clause-units
returns-clause-units c files found are = units-there files found are

pub returns-clause-cells : goal.returns-clause-cells
returns-clause-cells c files found are = cells-good files found are

pub returns-clause-contents : goal.returns-clause-contents
returns-clause-contents c files found are = contents-good files found are
