use Rattle.std.proofs.Common.{◌≡◌, ◌++◌, take}
use Rattle.std.specs.List.{flat_map}
use Rattle.vital_limits.specs.NodeLimits.{limits_of_actual}
use Rattle.vital_limits.proofs.node_limits.put_of_actuals.Given as goal

abbrev pub invariant-loop-item : goal.invariant-loop-item
invariant-loop-item l = l.limits.items ≡ l.initial.limits.items ++ flat_map limits_of_actual (take l.item-index l.items)
