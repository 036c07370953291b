use Rattle.std.proofs.Common.{◌∙◌, ap, sym, arith}
use Rattle.std.specs.Prelude.{◌||◌}
use Rattle.vital_drivers.specs.Clauses.{drives}
use Rattle.vital_drivers.specs.PathDelays.{lent}
use Rattle.vital_nodes.proofs.Lists.{any-seen}
use Rattle.vital_drivers.proofs.driver.driven_names.Goals as goal

pub loop-delay-preserved : goal.loop-delay-preserved
loop-delay-preserved c = λ name.
    c.in_ok-put_driven.ensures.names name
    ∙ ap (λ b. drives name (lent c.delay-item.result) || b) (c.loop-delay.invariant name)
    ∙ sym (any-seen lent (drives name) c.args.delays.now c.loop-delay.delay-index c.delay-item.result (omega arith) c.delay-item.is)
