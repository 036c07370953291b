use Rattle.std.proofs.Common.{List, refl, subst}
use Rattle.std.specs.List.{AllZip}
use Rattle.vital_actuals.specs.declared.actual.Path.{Path}
use Rattle.vital_cell.specs.Scopes.{lent}
use Rattle.vital_cell.specs.Steps.{IsPathStep}
use Rattle.vital_cell.proofs.StatementLemmas.{delay-conditions, delay-msg_on, delay-x_on}
use Rattle.vital_cell.proofs.numbered_steps.delay_step.Goals as goal

pub path_steps-requires-clause-sound : goal.path_steps-requires-clause-sound
path_steps-requires-clause-sound c = delay-conditions (lent c.args.scope.now) c.args.delay.now c.as_slice.result.now c.as_slice.ensures c.requires.sound

pub numbered_truth-requires : goal.numbered_truth-requires
numbered_truth-requires c = delay-x_on (lent c.args.scope.now) c.args.delay.now c.requires.sound

pub numbered_truth-requires-2 : goal.numbered_truth-requires-2
numbered_truth-requires-2 c = delay-msg_on (lent c.args.scope.now) c.args.delay.now c.requires.sound

pub returns : goal.returns
returns c =
    let P : List Path → Type 0 = λ ps. AllZip (IsPathStep (lent c.args.scope.now)) ps c.in_ok-path_steps.field-0 in
    record {
      driver = refl;
      out_signal = c.bit_of.ensures;
      glitch_data = c.variable_of.ensures;
      out_temp = c.in_ok-numbered_level.ensures;
      paths = subst P c.as_slice.ensures c.in_ok-path_steps.ensures;
      default_delay = c.known_delay.ensures;
      mode = refl;
      x_on = c.in_ok-numbered_truth.ensures;
      msg_on = c.in_ok-numbered_truth-2.ensures;
    }
