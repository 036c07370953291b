use Rattle.std.proofs.Common.{◌≡◌, ◌++◌, take}
use Rattle.std.specs.List.{flat_map}
use Rattle.vital_call_clauses.specs.Clauses as spec
use Rattle.vital_call_clauses.proofs.clauses.put_wrong_in_processes.Given as goal

abbrev pub invariant-loop-process : goal.invariant-loop-process
invariant-loop-process l = l.places.items ≡ l.initial.places.items ++ flat_map (λ u. spec.wrong_in_process u.0 u.1) (take l.process-index l.processes)
