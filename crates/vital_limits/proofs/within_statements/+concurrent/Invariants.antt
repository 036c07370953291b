use Rattle.std.proofs.Common.{◌≡◌, ◌++◌, take}
use Rattle.vital_limits.specs.WithinLimits.{limits_within_all}
use Rattle.vital_nodes.specs.Nodes.{concurrents}
use Rattle.vital_limits.proofs.within_statements.+concurrent.Given as goal

abbrev pub invariant-put_within_concs-loop-conc : goal.invariant-put_within_concs-loop-conc
invariant-put_within_concs-loop-conc l = l.limits.items ≡ l.initial.limits.items ++ limits_within_all (concurrents (take l.conc-index l.concs))
