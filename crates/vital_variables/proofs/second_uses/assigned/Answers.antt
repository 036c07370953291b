use Rattle.std.proofs.Common.{arith, refl}
use Rattle.std.specs.List.{flat_map}
use Rattle.vital_variables.specs.SecondUses.{assigned}
use Rattle.vital_nodes.proofs.Lists.{flat_map-seen, turn}
use Rattle.vital_variables.proofs.second_uses.assigned.Goals as goal

pub loop-stmt-preserved : goal.loop-stmt-preserved
loop-stmt-preserved c =
    turn _ _ _ _ _ _ c.in_ok-put_assigned.ensures c.loop-stmt.invariant refl
    (flat_map-seen (λ y. y.now) (assigned c.args.names.now c.args.process.now) c.args.statements.now c.loop-stmt.stmt-index c.stmt-item.result (omega arith) c.stmt-item.is)
