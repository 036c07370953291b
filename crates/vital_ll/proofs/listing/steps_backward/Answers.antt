use Rattle.vital_ll.proofs.Listings.{steps_from_end, steps_before, steps_from_first}
use Rattle.std.proofs.Common.{◌-◌, arith}
use Rattle.vital_ll.proofs.listing.steps_backward.Goals as goal

pub loop-rule-init : goal.loop-rule-init
loop-rule-init c = (omega arith, steps_from_end c.args.rules.now _ _ c.len-rule.ensures c.new-steps.ensures.items)

pub loop-rule-preserved : goal.loop-rule-preserved
loop-rule-preserved c = (
  omega arith,
  steps_before c.args.rules.now (c.loop-rule.rule - 1) c.loop-rule.rule c.alternative_count-count.result c.loop-rule.steps.items _ (omega arith) (omega (arith, c.loop-rule.invariant.0)) c.alternative_count-count.ensures c.in_ok-push_steps.ensures
      c.loop-rule.invariant.1,
)

pub returns : goal.returns
returns c = steps_from_first c.args.rules.now c.loop-rule.rule c.loop-rule.steps.items (omega arith) c.loop-rule.invariant.1
