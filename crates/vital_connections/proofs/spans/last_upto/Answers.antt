use Rattle.std.proofs.Common.{◌-◌, length, ap, ◌∙◌, rules}
use Rattle.std.specs.List.{slice_get}
use Rattle.std.proofs.lemmas.List.Sorted.{IsPartitionPoint-from_clause}
use Rattle.vital_connections.specs.Spans.{begins_upto}
use Rattle.vital_connections.specs.declared.span.Span.{Span}
use Rattle.vital_connections.proofs.FindLemmas.{last_is, parted}
use Rattle.vital_connections.proofs.spans.last_upto.Goals as goal

pub returns : goal.returns
returns c =
    let port = c.args.port in
    let bit = c.args.bit.now in
    let spans = c.args.spans.now in
    let count = c.partition_point-count.result in
    let point = IsPartitionPoint-from_clause (λ (s : Span). begins_upto port bit s) spans count c.partition_point-count.ensures.partitioned (parted port bit spans c.requires) (λ a r q k. search rules) in
    c.last.ensures.value
    ∙ ap (λ ss. slice_get ss (length ss - 1)) c.split_at.ensures.front
    ∙ last_is port bit spans count c.partition_point-count.ensures.bound point.0 point.1
