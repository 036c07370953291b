use Rattle.std.proofs.Common.{◌≡◌, ◌+◌, ◌*◌, ◌^◌, length}
use Rattle.vital_naturals.specs.Digits.{AreDigits, value}
use Rattle.vital_naturals.specs.Numerals.{number}
use Rattle.vital_naturals.proofs.digits.digits_of_literal.Given as goal

abbrev pub invariant-loop-byte : goal.invariant-loop-byte
invariant-loop-byte l = AreDigits l.digits.items × (value l.digits.items + 10 ^ length l.digits.items * number l.rest ≡ number l.literal)

abbrev pub decreases-loop-byte : goal.decreases-loop-byte
decreases-loop-byte l = length l.rest
