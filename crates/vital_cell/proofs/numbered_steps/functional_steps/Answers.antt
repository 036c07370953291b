use Rattle.vital_typed_cells.specs.SoundSections.{is_sound_functional}
use Rattle.vital_cell.specs.Scopes.{lent}
use Rattle.vital_cell.specs.Sound.{has_state_table, tests}
use Rattle.vital_cell.specs.Steps.{IsFunctionalStep}
use Rattle.vital_cell.proofs.ListLemmas.{all-item, zip-turn}
use Rattle.vital_cell.proofs.numbered_steps.functional_steps.Goals as goal

pub functional_step-requires : goal.functional_step-requires
functional_step-requires c = all-item (is_sound_functional (has_state_table (lent c.args.scope.now)) (tests (lent c.args.scope.now))) c.args.statements.now c.loop-statement.statement-index c.statement-item.result c.loop-statement-test.true c.statement-item.is c.requires

pub loop-statement-preserved : goal.loop-statement-preserved
loop-statement-preserved c =
    zip-turn (IsFunctionalStep (lent c.args.scope.now)) c.args.statements.now c.loop-statement.statement-index c.statement-item.result c.in_ok-functional_step.field-0 c.loop-statement.steps.items c.push.new.self.items
    c.loop-statement-test.true c.statement-item.is c.in_ok-functional_step.ensures c.loop-statement.invariant c.in_ok-push.ensures.items
