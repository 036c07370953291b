use Rattle.std.proofs.Common.{ap, sym, ◌∙◌}
use Rattle.std.specs.List.{list_any}
use Rattle.std.proofs.lemmas.List.Filters.{dedup_is}
use Rattle.std.proofs.lemmas.List.Sorted.{list_any-IsPermutation}
use Rattle.std.proofs.lemmas.Map.Keys.{IsStrictlyIncreasing-dedup}
use Rattle.vital_signals.specs.Lists.{NumberList}
use Rattle.vital_signals.proofs.NumberLemmas.{list_any-dedup}
use Rattle.vital_signals.proofs.numbers.Numbers.order.Goals as goal

pub returns-clause-rising : goal.returns-clause-rising
returns-clause-rising c = rw (dedup_is _ _ _ c.dedup.ensures.filtered) (IsStrictlyIncreasing-dedup _ c.sort_unstable.ensures.sorted)

pub returns-clause-same : goal.returns-clause-same
returns-clause-same c =
    λ test.
    ap (list_any test) (dedup_is _ _ _ c.dedup.ensures.filtered) ∙ list_any-dedup test _
    ∙ sym (list_any-IsPermutation test _ _ c.sort_unstable.ensures.permutation) ∙ ap (λ (n : NumberList). list_any test n.listed) c.self.view_is
