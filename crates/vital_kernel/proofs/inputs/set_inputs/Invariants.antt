use Rattle.std.proofs.Common.{◌≡◌, length, take}
use Rattle.vital_kernel.specs.Programs.{seen}
use Rattle.vital_kernel.proofs.inputs.set_inputs.Given as goal

abbrev pub invariant-loop-bit : goal.invariant-loop-bit
invariant-loop-bit l = record {
  one_each : length l.inputs ≡ length l.wires;
  so_far : take l.bit l.inputs ≡ seen l.now l.signals.signals (take l.bit l.wires);
}
