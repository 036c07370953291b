use Rattle.vital_typed_cells.specs.Trees.{is_sound_boolean}
use Rattle.vital_cell.specs.Scopes.{lent}
use Rattle.vital_cell.specs.Sound.{tests}
use Rattle.vital_cell.specs.Steps.{IsPathStep}
use Rattle.vital_cell.proofs.ListLemmas.{all-item, zip-turn}
use Rattle.vital_cell.proofs.numbered_steps.path_steps.Goals as goal

pub path_step-requires-clause-sound : goal.path_step-requires-clause-sound
path_step-requires-clause-sound c = all-item (λ p. is_sound_boolean (tests (lent c.args.scope.now)) p.condition) c.args.paths.now c.loop-path.path-index c.path-item.result c.loop-path-test.true c.path-item.is c.requires.sound

pub loop-path-preserved : goal.loop-path-preserved
loop-path-preserved c =
    zip-turn (IsPathStep (lent c.args.scope.now)) c.args.paths.now c.loop-path.path-index c.path-item.result c.in_ok-path_step.field-0 c.loop-path.steps.items c.push.new.self.items
    c.loop-path-test.true c.path-item.is c.in_ok-path_step.ensures c.loop-path.invariant c.in_ok-push.ensures.items
