use Rattle.std.proofs.Common.{take}
use Rattle.vital_operands.specs.Kept.{HasPlaces}
use Rattle.vital_operands.proofs.faults.set_of.Given as goal

abbrev pub invariant-loop-place : goal.invariant-loop-place
invariant-loop-place l = HasPlaces l.set (take l.place-index l.places)
