use Rattle.vital_typed_cells.specs.SoundStatements.{is_sound_path_delay}
use Rattle.vital_cell.specs.Scopes.{lent}
use Rattle.vital_cell.specs.Sound.{statement_tests}
use Rattle.vital_cell.specs.Steps.{IsDelayStep}
use Rattle.vital_cell.proofs.ListLemmas.{all-item, numbered-turn}
use Rattle.vital_cell.proofs.numbered_steps.delay_steps.Goals as goal

pub delay_step-requires-clause-sound : goal.delay_step-requires-clause-sound
delay_step-requires-clause-sound c =
    all-item (is_sound_path_delay (statement_tests (lent c.args.scope.now))) c.args.delays.now c.loop-number.number c.index-delays-number.result c.loop-number-test.true c.index-delays-number.is c.requires.sound

pub loop-number-preserved : goal.loop-number-preserved
loop-number-preserved c =
    numbered-turn (IsDelayStep (lent c.args.scope.now)) c.args.first_driver c.args.delays.now c.loop-number.number c.index-delays-number.result c.in_ok-delay_step.field-0 c.loop-number.steps.items c.push.new.self.items
    c.loop-number-test.true c.index-delays-number.is c.in_ok-delay_step.ensures c.loop-number.invariant c.in_ok-push.ensures.items
