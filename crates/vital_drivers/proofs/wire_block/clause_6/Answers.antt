use Rattle.std.proofs.Common.{refl, arith}
use Rattle.vital_drivers.specs.Clauses.{places_6_in}
use Rattle.vital_nodes.proofs.Lists.{flat_map-one, turn}
use Rattle.vital_drivers.proofs.wire_block.clause_6.Goals as goal

pub loop-conc-preserved : goal.loop-conc-preserved
loop-conc-preserved c =
    turn _ _ _ _ _ _ c.in_ok-put_places.ensures c.loop-conc.invariant refl
    (flat_map-one (places_6_in c.args.names.now) _ c.loop-conc.conc-index c.conc-item.result (omega arith) c.conc-item.is)
