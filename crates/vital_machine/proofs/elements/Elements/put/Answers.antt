use Rattle.std.proofs.Common.{length, arith}
use Rattle.vital_machine.specs.Elements.{lent}
use Rattle.vital_machine.proofs.FitLemmas.{fitted-filled, filled-more}
use Rattle.vital_machine.proofs.elements.Elements.put.Goals as goal

pub returns : goal.returns
returns c =
    fitted-filled (length c.args.places.now) (lent c.args.self.now) c.loop-number.places (omega arith)
    (λ i below. c.loop-number.invariant i (omega arith))

pub loop-number-preserved : goal.loop-number-preserved
loop-number-preserved c =
    filled-more (lent c.args.self.now) c.loop-number.places c.loop-number.number c.at.result (omega arith) c.at.ensures c.loop-number.invariant
