use Rattle.std.proofs.Common.{◌≡◌, take}
use Rattle.vital_identifiers.specs.Identifiers.{folded}
use Rattle.vital_stim.proofs.builder.fold_into.Given as goal

abbrev pub invariant-loop-byte : goal.invariant-loop-byte
invariant-loop-byte l = l.buffer.items ≡ folded (take l.byte-index l.name)
