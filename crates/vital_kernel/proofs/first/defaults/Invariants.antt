use Rattle.std.proofs.Common.{◌≡◌, map, take}
use Rattle.vital_kernel.proofs.first.defaults.Given as goal

abbrev pub invariant-loop-signal : goal.invariant-loop-signal
invariant-loop-signal l = l.values.items ≡ map (λ s. s.initial) (take l.signal-index l.signals)
