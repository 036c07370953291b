use Rattle.std.proofs.Common.{map}
use Rattle.vital_objects.specs.declared.variable.Variable.{Variable}
use Rattle.vital_cell.specs.Values.{suited}
use Rattle.vital_cell.proofs.FoldLemmas.{fold-turn}
use Rattle.vital_cell.proofs.slots.suit_checks.Goals as goal

pub loop-check-preserved : goal.loop-check-preserved
loop-check-preserved c =
    fold-turn (suited (map (λ (v : Variable). v.name) c.args.numbers.now)) c.args.slots.now c.args.checks.now c.loop-check.check-index c.check-item.result c.loop-check.slots c.suit_check.new.slots c.loop-check-test.true c.check-item.is c.loop-check.invariant c.suit_check.ensures
