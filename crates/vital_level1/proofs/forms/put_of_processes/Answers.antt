use Rattle.std.proofs.Common.{refl, arith}
use Rattle.vital_names.specs.Sites.{Cell}
use Rattle.vital_nodes.specs.declared.stmt.Process.{Process}
use Rattle.vital_level1.specs.Forms as spec
use Rattle.vital_nodes.proofs.Lists.{flat_map-one, turn-behind}
use Rattle.vital_level1.proofs.forms.put_of_processes.Goals as goal

pub loop-process-preserved : goal.loop-process-preserved
loop-process-preserved c = record {
  broken = turn-behind _ _ _ _ _ _ _ c.in_ok-put_of_process.ensures.broken c.loop-process.invariant.broken refl (flat_map-one (λ (u : Cell × Process). spec.broken_in_process u.0 c.args.faults.now u.1) c.args.processes.now c.loop-process.process-index c.process-item.result (omega arith) c.process-item.is);
  tables = turn-behind _ _ _ _ _ _ _ c.in_ok-put_of_process.ensures.tables c.loop-process.invariant.tables refl (flat_map-one (λ (u : Cell × Process). spec.uses_of_process u.0 c.args.faults.now u.1) c.args.processes.now c.loop-process.process-index c.process-item.result (omega arith) c.process-item.is);
}
