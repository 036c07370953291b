use Rattle.vital_instances.proofs.ContentLemmas.{kept-more}
use Rattle.vital_instances.proofs.net_units.NetUnits.new.Goals as goal

pub loop-number-preserved : goal.loop-number-preserved
loop-number-preserved c = kept-more _ _ _ _ c.in_ok-content.content c.loop-number.invariant c.in_ok-content.ensures c.in_ok-push.ensures.items
