use Rattle.std.proofs.Common.{◌≡◌, map, take}
use Rattle.std.specs.List.{flat_map}
use Rattle.vital_statements.specs.Clauses.{places_11_in}
use Rattle.vital_statements.proofs.timing_check.clause_11.Given as goal

abbrev pub invariant-loop-conc : goal.invariant-loop-conc
invariant-loop-conc l = l.places.items ≡ flat_map (places_11_in l.names) (map (λ c. c.now) (take l.conc-index l.conc-items))
