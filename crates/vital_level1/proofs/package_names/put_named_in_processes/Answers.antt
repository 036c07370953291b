use Rattle.std.proofs.Common.{refl, arith}
use Rattle.vital_names.specs.Sites.{Cell}
use Rattle.vital_nodes.specs.declared.stmt.Process.{Process}
use Rattle.vital_nodes.proofs.Lists.{flat_map-one, turn-behind}
use Rattle.vital_level1.specs.Packages.{named_in_process}
use Rattle.vital_level1.proofs.package_names.put_named_in_processes.Goals as goal

pub loop-process-preserved : goal.loop-process-preserved
loop-process-preserved c =
    turn-behind _ _ _ _ _ _ _ c.in_ok-put_named_in_process.ensures c.loop-process.invariant refl
    (flat_map-one (λ (u : Cell × Process). named_in_process u.0 u.1) c.args.processes.now c.loop-process.process-index c.process-item.result (omega arith) c.process-item.is)
