use Rattle.std.proofs.Common.{◌≡◌, map, take, ◌++◌}
use Rattle.std.specs.List.{flat_map}
use Rattle.vital_uses.specs.Apart.{apart_in_process}
use Rattle.vital_uses.specs.Sited.{lent_node}
use Rattle.vital_uses.proofs.apart.put_apart_in_processes.Given as goal

abbrev pub invariant-loop-process : goal.invariant-loop-process
invariant-loop-process l = map lent_node l.nodes.items ≡ map lent_node l.initial.nodes.items ++ flat_map apart_in_process (take l.process-index l.processes)
