use Rattle.std.proofs.Common.{length, subst, sym, ap, arith}
use Rattle.std.specs.Prelude.{All}
use Rattle.std.proofs.lemmas.List.Elements.{All-nil}
use Rattle.vital_machine.specs.Fits.{EndsInTime, HaveTimes}
use Rattle.vital_machine.specs.Machine.{State, state_of}
use Rattle.vital_machine.proofs.EffectLemmas.{checked-ends, checked-few}
use Rattle.vital_machine.proofs.TimeLemmas.{functionality-times}
use Rattle.vital_machine.proofs.executed.execute_process.Goals as goal

pub delay_all-requires-clause-times : goal.delay_all-requires-clause-times
delay_all-requires-clause-times c =
    subst (HaveTimes c.args.now) (sym c.execute_all.ensures)
    (functionality-times c.args.now c.args.inputs.now c.check_if_on.new.slots c.as_slice.result.now c.check_if_on.ensures.times)

pub delay_all-requires-clause-room : goal.delay_all-requires-clause-room
delay_all-requires-clause-room c =
    omega (
      arith,
      checked-few c.args.inputs.now c.args.now c.args.checks_on (state_of c.args.slots.now c.args.effects.now) c.args.steps.now.checks,
      ap (λ (st : State). length st.effects) c.check_if_on.ensures.done,
      c.check_if_on.ensures.room,
      ap length c.requires.none,
      ap length c.as_slice-2.ensures,
    )

pub delay_all-requires-clause-ends : goal.delay_all-requires-clause-ends
delay_all-requires-clause-ends c =
    let Ends = EndsInTime c.args.now in
    subst (All Ends) (sym (ap (λ (st : State). st.effects) c.check_if_on.ensures.done))
    (checked-ends c.args.inputs.now c.args.now c.args.checks_on (state_of c.args.slots.now c.args.effects.now) c.args.steps.now.checks
    (subst (All Ends) (sym c.requires.none) (All-nil Ends)))
