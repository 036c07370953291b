use Rattle.std.proofs.Common.{◌≡◌, ◌≤◌, length}
use Rattle.vital_declarations.specs.Numbers.{number}
use Rattle.vital_associations.proofs.sum.split_last_digit.Given as goal

abbrev pub invariant-loop-byte : goal.invariant-loop-byte
invariant-loop-byte l = (number l.rest ≡ number l.literal) × (length l.rest ≤ length l.literal)

abbrev pub decreases-loop-byte : goal.decreases-loop-byte
decreases-loop-byte l = length l.rest
