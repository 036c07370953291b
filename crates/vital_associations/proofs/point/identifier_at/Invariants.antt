use Rattle.std.proofs.Common.{◌≡◌, map, drop}
use Rattle.std.specs.List.{find}
use Rattle.vital_associations.specs.Points.{stands_at}
use Rattle.vital_associations.proofs.point.identifier_at.Given as goal

abbrev pub invariant-loop-identifier : goal.invariant-loop-identifier
invariant-loop-identifier l =
    find (stands_at l.place) (map (λ i. i.now) l.identifiers) ≡ find (stands_at l.place) (map (λ i. i.now) (drop l.identifier-index l.identifiers))
