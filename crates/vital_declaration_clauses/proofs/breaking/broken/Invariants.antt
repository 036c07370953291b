use Rattle.std.proofs.Common.{◌≡◌, take}
use Rattle.std.specs.List.{flat_map}
use Rattle.vital_declaration_clauses.specs.Clauses.{breaks, broken_in}
use Rattle.vital_declaration_clauses.proofs.breaking.broken.Given as goal

abbrev pub invariant-loop-region : goal.invariant-loop-region
invariant-loop-region l = l.places.items ≡ flat_map (broken_in (breaks l.clause l.names)) (take l.region-index l.regions)
