use Rattle.std.proofs.Common.{arith, refl}
use Rattle.vital_uses.specs.Apart.{nodes_of_entity_statement}
use Rattle.vital_nodes.proofs.Lists.{flat_map-one, turn-behind}
use Rattle.vital_uses.proofs.apart.put_entity_statements.Goals as goal

pub loop-conc-preserved : goal.loop-conc-preserved
loop-conc-preserved c =
    turn-behind _ _ _ _ _ _ _ c.in_ok-put_entity_statement.ensures c.loop-conc.invariant refl
    (flat_map-one nodes_of_entity_statement c.args.statements.now c.loop-conc.conc-index c.conc-item.result (omega arith) c.conc-item.is)
