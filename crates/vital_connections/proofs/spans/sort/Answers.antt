use Rattle.std.proofs.Common.{◌≡◌, ap, rules}
use Rattle.std.specs.Ordering.{is_lt}
use Rattle.std.proofs.lemmas.Fn.{always_returns_same}
use Rattle.std.proofs.lemmas.Result.{on_ok_weaker}
use Rattle.vital_connections.specs.Spans.{order}
use Rattle.vital_connections.specs.declared.span.Span.{Span}
use Rattle.vital_connections.proofs.SortLemmas.{order_ranks}
use Rattle.vital_connections.proofs.spans.sort.Goals as goal

pub returns-clause-sorted : goal.returns-clause-sorted
returns-clause-sorted c =
    on_ok_weaker c.sort_by.result
    (λ up. up (λ (x y : Span). is_lt (order x y)) order_ranks
    (always_returns_same _ (λ a r. is_lt r ≡ is_lt (order a.0.now a.1.0.now)) _
    (λ a r f k. let h : (r ≡ order a.0.now a.1.0.now) × (f ≡ c.sort_by.new.compare) = search rules in (ap is_lt h.0, h.1))))
    c.sort_by.ensures.sorted
