use Rattle.std.proofs.Common.{map}
use Rattle.vital_associations.specs.Associations.{lent as lent'}
use Rattle.vital_connections.specs.Objects.{lent, shape_at}
use Rattle.vital_connections.proofs.SortLemmas.{given_result, inside_result, sorted_result}
use Rattle.vital_connections.proofs.spans.sorted_spans.Goals as goal

pub returns : goal.returns
returns c =
    let ports = shape_at (map lent c.args.ports.now) in
    let signals = shape_at (map lent c.args.signals.now) in
    let made = map lent' c.args.associations.now in
    let found = c.in_ok-spans.spans.items in
    let spans = c.sort.new.spans.items in
    let moved = c.in_ok-sort.ensures.permutation in record {
      sorted = sorted_result ports signals made found spans c.requires c.in_ok-spans.ensures moved c.in_ok-sort.ensures.sorted;
      inside = inside_result ports signals made found spans c.requires c.in_ok-spans.ensures moved;
      given = given_result ports signals made found spans c.requires c.in_ok-spans.ensures moved;
    }
