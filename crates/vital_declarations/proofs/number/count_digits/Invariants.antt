use Rattle.std.proofs.Common.{◌≡◌, length, take}
use Rattle.vital_declarations.specs.Digits.{digits_of}
use Rattle.vital_declarations.proofs.number.count_digits.Given as goal

abbrev pub invariant-loop-byte : goal.invariant-loop-byte
invariant-loop-byte l = l.count ≡ length (digits_of (take l.byte-index l.literal))
