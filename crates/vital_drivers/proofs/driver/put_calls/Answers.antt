use Rattle.std.proofs.Common.{◌∙◌, ap, sym, false, arith, ◌++◌}
use Rattle.std.specs.Prelude.{◌||◌}
use Rattle.vital_drivers.specs.Clauses.{drives, places_12_at, wrong_out_signal}
use Rattle.vital_statements.specs.Lists.{place_if}
use Rattle.vital_drivers.specs.PathDelays.{lent}
use Rattle.vital_nodes.proofs.Lists.{any-seen, put-two, turn-behind}
use Rattle.vital_statements.proofs.Steps.{each-seen, or-same}
use Rattle.vital_drivers.proofs.driver.put_calls.Goals as goal

pub loop-delay-preserved : goal.loop-delay-preserved
loop-delay-preserved c =
    let x = c.delay-item.result in
    record {
      places = turn-behind _ _ _ _ _ _ _
          (put-two c.loop-delay.places.items (place_if c.in_ok-again.again x.place) (wrong_out_signal (lent x)) _ _ c.in_ok-put_if.ensures c.in_ok-put_out_signal.ensures)
          c.loop-delay.invariant.places
          (ap (λ ps. ps ++ wrong_out_signal (lent x)) (ap (λ b. place_if b x.place) (c.in_ok-again.ensures.again ∙ or-same _ _ (lent x).port false (λ i. c.loop-delay.invariant.driven i.name))))
          (each-seen lent places_12_at c.args.delays.now c.loop-delay.delay-index x (omega arith) c.delay-item.is);
      driven = λ name.
          c.in_ok-again.ensures.names name
          ∙ ap (λ b. drives name (lent x) || b) (c.loop-delay.invariant.driven name)
          ∙ sym (any-seen lent (drives name) c.args.delays.now c.loop-delay.delay-index x (omega arith) c.delay-item.is);
    }
