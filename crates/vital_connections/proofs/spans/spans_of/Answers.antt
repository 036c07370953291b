use Rattle.std.proofs.Common.{◌++◌, [], ◌∷◌, map, ◌∙◌, ap, sym, arith}
use Rattle.vital_associations.specs.Associations.{lent as lent'}
use Rattle.vital_connections.specs.Objects.{lent, shape_at}
use Rattle.vital_connections.specs.Spans.{span_of, spans_of}
use Rattle.vital_connections.proofs.spans.spans_of.Goals as goal
use Rattle.vital_nodes.proofs.Lists.{filter_map-seen}

pub loop-association-preserved : goal.loop-association-preserved
loop-association-preserved c =
    let ports = shape_at (map lent c.args.ports.now) in
    let signals = shape_at (map lent c.args.signals.now) in
    c.in_ok-put_span.ensures
    ∙ ap (λ ss. ss ++ spans_of ports signals (lent' c.association-item.result ∷ [])) c.loop-association.invariant
    ∙ sym (filter_map-seen lent' (span_of ports signals) c.args.associations.now c.loop-association.association-index c.association-item.result (omega arith) c.association-item.is)
