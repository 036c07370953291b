use Rattle.std.proofs.Common.{◌≡◌, ◌++◌, take}
use Rattle.std.specs.List.{flat_map}
use Rattle.vital_level1.specs.Packages.{named_in_process}
use Rattle.vital_level1.proofs.package_names.put_named_in_processes.Given as goal

abbrev pub invariant-loop-process : goal.invariant-loop-process
invariant-loop-process l = l.named.items ≡ l.initial.named.items ++ flat_map (λ u. named_in_process u.0 u.1) (take l.process-index l.processes)
