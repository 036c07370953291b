use Rattle.std.proofs.Common.{◌≡◌, ◌++◌, take}
use Rattle.std.specs.List.{flat_map}
use Rattle.vital_declaration_clauses.specs.Clauses.{redeclared_in}
use Rattle.vital_declaration_clauses.proofs.clauses.clause_17.Given as goal

abbrev pub invariant-loop-region : goal.invariant-loop-region
invariant-loop-region l = l.places.items ≡ l.initial.places.items ++ flat_map (redeclared_in l.names) (take l.region-index l.regions)
