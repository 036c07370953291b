use Rattle.std.proofs.Common.{◌≡◌, map, take}
use Rattle.vital_associations.specs.Associations.{lent as lent'}
use Rattle.vital_connections.specs.Objects.{lent, shape_at}
use Rattle.vital_connections.specs.Spans as spec
use Rattle.vital_connections.proofs.spans.spans_of.Given as goal

abbrev pub invariant-loop-association : goal.invariant-loop-association
invariant-loop-association l =
    l.spans.items ≡ spec.spans_of (shape_at (map lent l.ports)) (shape_at (map lent l.signals)) (map lent' (take l.association-index l.associations))
