use Rattle.std.proofs.Common.{◌≡◌, ◌++◌, map, take}
use Rattle.vital_kernel.proofs.first.put_values.Given as goal

abbrev pub invariant-loop-driver : goal.invariant-loop-driver
invariant-loop-driver l = l.values.items ≡ l.initial.values.items ++ map (λ d. d.initial) (take l.driver-index l.drivers)
