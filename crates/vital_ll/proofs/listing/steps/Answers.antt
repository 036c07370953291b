use Rattle.vital_ll.proofs.Listings.{steps_more, steps_done}
use Rattle.std.proofs.Common.{arith}
use Rattle.vital_ll.proofs.listing.steps.Goals as goal

pub loop-rule-preserved : goal.loop-rule-preserved
loop-rule-preserved c =
    steps_more c.args.rules.now c.loop-rule.rule c.alternative_count.result c.loop-rule.steps.items _ (omega arith) c.alternative_count.ensures c.in_ok-push_steps.ensures c.loop-rule.invariant

pub returns : goal.returns
returns c = steps_done c.args.rules.now c.loop-rule.rule c.loop-rule.steps.items (omega arith) c.loop-rule.invariant
