use Rattle.std.proofs.Common.{◌≡◌, length}
use Rattle.vital_naturals.specs.Digits.{AreDigits, significant}
use Rattle.vital_naturals.proofs.digits.significant.Given as goal

abbrev pub invariant-loop-last : goal.invariant-loop-last
invariant-loop-last l = AreDigits l.rest × (significant l.rest ≡ significant l.digits)

abbrev pub decreases-loop-last : goal.decreases-loop-last
decreases-loop-last l = length l.rest
