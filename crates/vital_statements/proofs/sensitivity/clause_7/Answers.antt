use Rattle.std.proofs.Common.{refl, arith}
use Rattle.vital_statements.specs.Clauses.{places_7_in}
use Rattle.vital_nodes.proofs.Lists.{flat_map-seen, turn}
use Rattle.vital_statements.proofs.sensitivity.clause_7.Goals as goal

pub loop-conc-preserved : goal.loop-conc-preserved
loop-conc-preserved c =
    turn _ _ _ _ _ _ c.in_ok-put_places.ensures c.loop-conc.invariant refl
    (flat_map-seen (λ b. b.now) (places_7_in c.args.names.now) _ c.loop-conc.conc-index c.conc-item.result (omega arith) c.conc-item.is)
