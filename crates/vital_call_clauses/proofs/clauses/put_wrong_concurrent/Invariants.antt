use Rattle.std.proofs.Common.{◌≡◌, ◌++◌, map, take}
use Rattle.std.specs.List.{flat_map}
use Rattle.vital_call_clauses.specs.Clauses as spec
use Rattle.vital_call_clauses.proofs.clauses.put_wrong_concurrent.Given as goal

abbrev pub invariant-loop-conc : goal.invariant-loop-conc
invariant-loop-conc l = l.places.items ≡ l.initial.places.items ++ flat_map (spec.wrong_concurrent l.names) (map (λ s. s.now) (take l.conc-index l.statements))
