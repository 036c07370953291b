use Rattle.std.proofs.Common.{◌≡◌, ◌++◌, map, take}
use Rattle.std.specs.List.{filter_map}
use Rattle.vital_drivers.specs.PathDelays.{lent, path_delay_of_stmt}
use Rattle.vital_drivers.proofs.path_delay.put_sequential.Given as goal

abbrev pub invariant-loop-stmt : goal.invariant-loop-stmt
invariant-loop-stmt l = map lent l.delays.items ≡ map lent l.initial.delays.items ++ filter_map (path_delay_of_stmt l.names l.process) (map (λ s. s.now) (take l.stmt-index l.statements))
