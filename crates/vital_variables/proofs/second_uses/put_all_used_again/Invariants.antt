use Rattle.std.proofs.Common.{◌≡◌, take, ◌++◌}
use Rattle.std.specs.List.{flat_map}
use Rattle.vital_variables.specs.SecondUses.{used_again}
use Rattle.vital_variables.proofs.second_uses.put_all_used_again.Given as goal

abbrev pub invariant-loop-process : goal.invariant-loop-process
invariant-loop-process l = l.places.items ≡ l.initial.places.items ++ flat_map (λ u. used_again u.0 u.1) (take l.process-index l.processes)
