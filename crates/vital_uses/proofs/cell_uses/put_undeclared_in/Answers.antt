use Rattle.std.proofs.Common.{arith, refl}
use Rattle.vital_nodes.specs.declared.stmt.Process.{Process}
use Rattle.vital_names.specs.Sites.{Cell}
use Rattle.vital_uses.specs.Undeclared.{undeclared_in}
use Rattle.vital_nodes.proofs.Lists.{flat_map-one, turn-behind}
use Rattle.vital_uses.proofs.cell_uses.put_undeclared_in.Goals as goal

pub loop-process-preserved : goal.loop-process-preserved
loop-process-preserved c =
    turn-behind _ _ _ _ _ _ _ c.in_ok-put_undeclared_of.ensures c.loop-process.invariant refl
    (flat_map-one (λ (u : Cell × Process). undeclared_in u.0 u.1) c.args.processes.now c.loop-process.process-index c.process-item.result (omega arith) c.process-item.is)
