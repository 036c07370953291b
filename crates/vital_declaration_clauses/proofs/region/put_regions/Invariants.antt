use Rattle.std.proofs.Common.{◌≡◌, ◌++◌, take, map}
use Rattle.std.specs.List.{filter_map}
use Rattle.vital_declaration_clauses.specs.Regions.{region_of}
use Rattle.vital_declaration_clauses.proofs.region.put_regions.Given as goal

abbrev pub invariant-loop-conc : goal.invariant-loop-conc
invariant-loop-conc l = l.found.items ≡ l.initial.found.items ++ filter_map region_of (map (λ c. c.now) (take l.conc-index l.statements))
