use Rattle.std.proofs.Common.{◌≡◌, map, take}
use Rattle.std.specs.List.{flat_map}
use Rattle.vital_variables.specs.Given.{given}
use Rattle.vital_variables.proofs.given.given.Given as goal

abbrev pub invariant-loop-stmt : goal.invariant-loop-stmt
invariant-loop-stmt l = map (λ y. y.now) l.given.items ≡ flat_map (given l.formals l.names l.process) (map (λ y. y.now) (take l.stmt-index l.statements))
