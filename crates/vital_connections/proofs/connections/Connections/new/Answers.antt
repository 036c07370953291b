use Rattle.std.proofs.Common.{map, ap, ◌∙◌}
use Rattle.vital_associations.specs.Associations.{lent as lent'}
use Rattle.vital_connections.specs.Connections.{connection}
use Rattle.vital_connections.specs.Objects.{lent, shape_at}
use Rattle.vital_connections.specs.Own.{all_gaps}
use Rattle.vital_connections.proofs.GapLemmas.{gaps_own}
use Rattle.vital_connections.proofs.connections.Connections.new.Goals as goal

pub returns-clause-own : goal.returns-clause-own
returns-clause-own c =
    let os = map lent c.args.ports.now in
    let signals = shape_at (map lent c.args.signals.now) in
    let spans = c.in_ok-spans.spans.items in
    c.in_ok-own.ensures
    ∙ ap (all_gaps 0 os) c.deref.ensures.value
    ∙ gaps_own os spans (λ port bit. connection (shape_at os) signals port bit (map lent' c.args.associations.now)) c.in_ok-spans.ensures.sorted c.in_ok-spans.ensures.inside c.in_ok-spans.ensures.given
