use Rattle.std.proofs.Common.{length, ap, ◌∙◌, arith}
use Rattle.vital_machine.specs.Machine.{State, delay_step, state_of}
use Rattle.vital_machine.proofs.ChangeLemmas.{fold-turn}
use Rattle.vital_machine.proofs.EffectLemmas.{delay-few}
use Rattle.vital_machine.proofs.executed.delay_all.Goals as goal

pub loop-step-preserved : goal.loop-step-preserved
loop-step-preserved c =
    let step = c.step-item.result in
    let before : State = state_of c.loop-step.slots c.loop-step.effects in record {
      done =
          fold-turn (delay_step c.args.inputs.now c.args.now) (state_of c.args.slots.now c.args.effects.now) before (state_of c.delay.new.slots c.delay.new.effects) c.args.steps.now c.loop-step.step-index step (omega arith) c.step-item.is c.loop-step.invariant.done c.delay.ensures.done;
      room = c.delay.ensures.room ∙ c.loop-step.invariant.room;
      listed = omega (arith, delay-few c.args.inputs.now c.args.now before step, ap (λ (st : State). length st.effects) c.delay.ensures.done);
      times = c.delay.ensures.times c.args.now (omega arith);
      ends = c.delay.ensures.ends c.loop-step.invariant.ends;
    }
