use Rattle.std.proofs.Common.{◌∙◌, not, ltb, length}
use Rattle.vital_signals.proofs.NumberLemmas.{none_above, rising_below}
use Rattle.vital_signals.proofs.signals.touch.Goals as goal

pub returns-clause-rising : goal.returns-clause-rising
returns-clause-rising c =
    let count = length c.args.sources.now.defaults in
    rising_below count c.order.new.self.listed c.order.ensures.rising
    (c.order.ensures.same (λ n. not (ltb n count)) ∙ none_above count c.gather.new.touched.listed c.gather.ensures.below)
