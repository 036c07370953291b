use Rattle.std.proofs.Common.{◌≡◌, ◌≤◌, drop, length}
use Rattle.vital_naturals.specs.Digits.{value}
use Rattle.vital_naturals.proofs.word.word_of_digits.Given as goal

abbrev pub invariant-loop-place : goal.invariant-loop-place
invariant-loop-place l = (l.place ≤ length l.digits) × (l.word ≡ value (drop l.place l.digits))

abbrev pub decreases-loop-place : goal.decreases-loop-place
decreases-loop-place l = l.place
