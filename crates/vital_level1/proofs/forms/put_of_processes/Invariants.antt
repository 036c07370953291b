use Rattle.std.proofs.Common.{◌≡◌, ◌++◌, take}
use Rattle.std.specs.List.{flat_map}
use Rattle.vital_names.specs.Sites.{Cell}
use Rattle.vital_nodes.specs.declared.stmt.Process.{Process}
use Rattle.vital_level1.specs.Forms as spec
use Rattle.vital_level1.proofs.forms.put_of_processes.Given as goal

abbrev pub invariant-loop-process : goal.invariant-loop-process
invariant-loop-process l = record {
  broken : l.broken.items ≡ l.initial.broken.items ++ flat_map (λ (u : Cell × Process). spec.broken_in_process u.0 l.faults u.1) (take l.process-index l.processes);
  tables : l.tables.items ≡ l.initial.tables.items ++ flat_map (λ (u : Cell × Process). spec.uses_of_process u.0 l.faults u.1) (take l.process-index l.processes);
}
