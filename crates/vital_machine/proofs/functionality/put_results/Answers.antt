use Rattle.std.proofs.Common.{arith}
use Rattle.vital_machine.proofs.ResultLemmas.{results-filled, results-more, results-rest}
use Rattle.vital_machine.proofs.functionality.put_results.Goals as goal

pub returns : goal.returns
returns c =
    results-filled c.args.table.now c.args.row c.args.results.now c.loop-number.results (omega arith)
    (λ i below. c.loop-number.invariant.done i (omega arith))

pub loop-number-preserved : goal.loop-number-preserved
loop-number-preserved c = record {
  done =
      results-more c.args.table.now c.args.row c.args.results.now c.loop-number.results c.loop-number.number c.result.result _ (omega arith) (omega arith) c.result.ensures (c.loop-number.invariant.rest c.loop-number.number (omega arith)) c.loop-number.invariant.done;
  rest = results-rest c.args.results.now c.loop-number.results c.loop-number.number c.result.result c.loop-number.invariant.rest;
}
