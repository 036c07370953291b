use Rattle.std.proofs.Common.{◌≡◌, ◌++◌, map, take}
use Rattle.vital_kernel.proofs.first.put_signals_of.Given as goal

abbrev pub invariant-loop-driver : goal.invariant-loop-driver
invariant-loop-driver l = l.numbers.items ≡ l.initial.numbers.items ++ map (λ d. d.signal) (take l.driver-index l.drivers)
