use Rattle.std.proofs.Common.{◌≡◌, ◌++◌, take}
use Rattle.vital_level1.specs.Breaches.{broken}
use Rattle.vital_level1.proofs.faults.put_broken.Given as goal

abbrev pub invariant-loop-place : goal.invariant-loop-place
invariant-loop-place l = l.all.items ≡ l.initial.all.items ++ broken l.number (take l.place-index l.places)
