use Rattle.std.proofs.Common.{refl, arith}
use Rattle.vital_call_clauses.specs.Clauses as spec
use Rattle.vital_nodes.proofs.Lists.{flat_map-seen, turn-behind}
use Rattle.vital_call_clauses.proofs.clauses.put_wrong_concurrent.Goals as goal

pub loop-conc-preserved : goal.loop-conc-preserved
loop-conc-preserved c =
    turn-behind _ _ _ _ _ _ _ c.in_ok-put_wrong_conc.ensures c.loop-conc.invariant refl
    (flat_map-seen (λ s. s.now) (spec.wrong_concurrent c.args.names.now) c.args.statements.now c.loop-conc.conc-index c.conc-item.result (omega arith) c.conc-item.is)
