use Rattle.std.proofs.Common.{◌≡◌, take}
use Rattle.std.specs.Prelude.{slice_get}
use Rattle.std.specs.List.{filter_map}
use Rattle.vital_kernel.proofs.sensitivities.signals_of.Given as goal

abbrev pub invariant-loop-bit : goal.invariant-loop-bit
invariant-loop-bit l = l.signals.items ≡ filter_map (slice_get l.wires) (take l.bit-index l.bits)
