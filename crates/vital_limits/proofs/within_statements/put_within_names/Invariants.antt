use Rattle.std.proofs.Common.{◌≡◌, ◌++◌, take}
use Rattle.vital_limits.specs.WithinLimits.{limits_within_all}
use Rattle.vital_nodes.specs.Nodes.{names}
use Rattle.vital_limits.proofs.within_statements.put_within_names.Given as goal

abbrev pub invariant-loop-name : goal.invariant-loop-name
invariant-loop-name l = l.limits.items ≡ l.initial.limits.items ++ limits_within_all (names (take l.name-index l.list))
