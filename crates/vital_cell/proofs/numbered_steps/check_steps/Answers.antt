use Rattle.vital_typed_cells.specs.SoundStatements.{is_sound_check}
use Rattle.vital_cell.specs.Scopes.{lent}
use Rattle.vital_cell.specs.Sound.{statement_tests}
use Rattle.vital_cell.specs.Steps.{IsCheckStep}
use Rattle.vital_cell.proofs.ListLemmas.{all-item, zip-turn}
use Rattle.vital_cell.proofs.numbered_steps.check_steps.Goals as goal

pub timing_step-requires-clause-sound : goal.timing_step-requires-clause-sound
timing_step-requires-clause-sound c = all-item (is_sound_check (statement_tests (lent c.args.scope.now))) c.args.checks.now c.loop-check.check-index c.check-item.result c.loop-check-test.true c.check-item.is c.requires.sound

pub loop-check-preserved : goal.loop-check-preserved
loop-check-preserved c =
    zip-turn (IsCheckStep (lent c.args.scope.now)) c.args.checks.now c.loop-check.check-index c.check-item.result c.in_ok-timing_step.field-0 c.loop-check.steps.items c.push.new.self.items
    c.loop-check-test.true c.check-item.is c.in_ok-timing_step.ensures c.loop-check.invariant c.in_ok-push.ensures.items
