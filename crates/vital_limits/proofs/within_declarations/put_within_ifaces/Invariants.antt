use Rattle.std.proofs.Common.{◌≡◌, ◌++◌, take}
use Rattle.vital_limits.specs.WithinLimits.{limits_within_all}
use Rattle.vital_nodes.specs.Nodes.{interfaces}
use Rattle.vital_limits.proofs.within_declarations.put_within_ifaces.Given as goal

abbrev pub invariant-loop-iface : goal.invariant-loop-iface
invariant-loop-iface l = l.limits.items ≡ l.initial.limits.items ++ limits_within_all (interfaces (take l.iface-index l.ifaces))
