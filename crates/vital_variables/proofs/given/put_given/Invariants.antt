use Rattle.std.proofs.Common.{◌≡◌, map, take, ◌++◌}
use Rattle.std.specs.List.{filter_map}
use Rattle.vital_variables.specs.Given.{given_by}
use Rattle.vital_variables.proofs.given.put_given.Given as goal

abbrev pub invariant-loop-item : goal.invariant-loop-item
invariant-loop-item l = map (λ y. y.now) l.given.items ≡ map (λ y. y.now) l.initial.given.items ++ filter_map (given_by l.formals l.procedure) (take l.item-index l.items)
