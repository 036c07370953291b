use Rattle.std.proofs.Common.{arith, refl}
use Rattle.vital_uses.specs.Reads.{read_in}
use Rattle.vital_nodes.proofs.Lists.{flat_map-seen, turn}
use Rattle.vital_uses.proofs.reads.read_in_all.Goals as goal

pub loop-stmt-preserved : goal.loop-stmt-preserved
loop-stmt-preserved c =
    turn _ _ _ _ _ _ c.in_ok-put_read_in.ensures c.loop-stmt.invariant refl
    (flat_map-seen (λ y. y.now) read_in c.args.statements.now c.loop-stmt.stmt-index c.stmt-item.result (omega arith) c.stmt-item.is)
