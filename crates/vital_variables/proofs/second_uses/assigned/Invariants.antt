use Rattle.std.proofs.Common.{◌≡◌, map, take}
use Rattle.std.specs.List.{flat_map}
use Rattle.vital_variables.specs.SecondUses.{assigned}
use Rattle.vital_variables.proofs.second_uses.assigned.Given as goal

abbrev pub invariant-loop-stmt : goal.invariant-loop-stmt
invariant-loop-stmt l = map (λ y. y.now) l.assigned.items ≡ flat_map (assigned l.names l.process) (map (λ y. y.now) (take l.stmt-index l.statements))
