use Rattle.std.proofs.lemmas.Result.{on_ok_weaker}
use Rattle.vital_nodes.specs.Nodes.{Concurrent}
use Rattle.vital_limits.proofs.WithinLemmas.{node-put, put-conc}
use Rattle.vital_limits.proofs.within_statements.+concurrent.Goals as goal

pub put_within_conc-returns : goal.put_within_conc-returns
put_within_conc-returns t c =
    on_ok_weaker c.put_in_conc.result
    (put-conc c.walked_in_preorder.ensures c.args.conc.now _ _ _ c.in_ok-put_of_concurrent.ensures)
    c.put_in_conc.ensures

pub put_within_concs-loop-conc-preserved : goal.put_within_concs-loop-conc-preserved
put_within_concs-loop-conc-preserved t c =
    node-put (λ x. Concurrent x) _ _ _ c.args.concs.now c.loop-conc.conc-index c.conc-item.result c.in_ok-put_within_conc.ensures c.loop-conc.invariant c.loop-conc-test.true c.conc-item.is
