use Rattle.vital_connections.proofs.AssociatedLemmas.{associated_apart, associated_ports}
use Rattle.vital_connections.proofs.FittingLemmas.{associated-inside}
use Rattle.vital_connections.proofs.laws.associations_are_apart.Goals as goal

pub returns-clause-ports : goal.returns-clause-ports
returns-clause-ports c formals signals items made is = associated_ports formals signals items made is

pub returns-clause-apart : goal.returns-clause-apart
returns-clause-apart c formals signals items made is = associated_apart formals signals items made is

pub returns-clause-inside : goal.returns-clause-inside
returns-clause-inside c formals signals items made is port bit object offset at = associated-inside formals signals items made is port bit object offset at
