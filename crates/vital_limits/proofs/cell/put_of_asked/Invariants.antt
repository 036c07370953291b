use Rattle.std.proofs.Common.{◌≡◌, ◌++◌, map, take}
use Rattle.std.specs.List.{flat_map}
use Rattle.vital_limits.specs.CellLimits as spec
use Rattle.vital_uses.specs.Asked.{lent_asked}
use Rattle.vital_limits.proofs.cell.put_of_asked.Given as goal

abbrev pub invariant-loop-asked : goal.invariant-loop-asked
invariant-loop-asked l = l.limits.items ≡ l.initial.limits.items ++ flat_map (spec.limits_of_asked l.constants) (map lent_asked (take l.asked-index l.asked))
