use Rattle.std.proofs.Common.{length, arith}
use Rattle.vital_machine.specs.Machine.{held_by}
use Rattle.vital_machine.specs.Seen.{lent}
use Rattle.vital_machine.proofs.FitLemmas.{fitted-filled, filled-more}
use Rattle.vital_machine.proofs.functionality.put_held.Goals as goal

pub returns : goal.returns
returns c =
    fitted-filled (length c.args.levels.now) (held_by c.args.place (lent c.args.seen.now).slots) c.loop-number.levels (omega arith)
    (λ i below. c.loop-number.invariant i (omega arith))

pub loop-number-preserved : goal.loop-number-preserved
loop-number-preserved c =
    filled-more (held_by c.args.place (lent c.args.seen.now).slots) c.loop-number.levels c.loop-number.number c.held_at.result (omega arith) c.held_at.ensures c.loop-number.invariant
