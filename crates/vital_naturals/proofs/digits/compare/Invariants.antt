use Rattle.std.proofs.Common.{◌≡◌, drop}
use Rattle.vital_naturals.specs.Digits.{value}
use Rattle.vital_naturals.proofs.digits.compare.Given as goal

abbrev pub invariant-loop-place : goal.invariant-loop-place
invariant-loop-place l = value (drop l.place l.first) ≡ value (drop l.place l.second)

abbrev pub decreases-loop-place : goal.decreases-loop-place
decreases-loop-place l = l.place
