use Rattle.std.proofs.Common.{◌≡◌, length}
use Rattle.vital_declarations.specs.Digits.{digits_of}
use Rattle.vital_declarations.proofs.number.split_digit.Given as goal

abbrev pub invariant-loop-byte : goal.invariant-loop-byte
invariant-loop-byte l = digits_of l.rest ≡ digits_of l.initial.rest

abbrev pub decreases-loop-byte : goal.decreases-loop-byte
decreases-loop-byte l = length l.rest
