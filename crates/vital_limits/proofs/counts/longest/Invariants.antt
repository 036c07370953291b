use Rattle.std.proofs.Common.{◌≡◌, take}
use Rattle.vital_limits.specs.Counts as spec
use Rattle.vital_limits.proofs.counts.longest.Given as goal

abbrev pub invariant-loop-row : goal.invariant-loop-row
invariant-loop-row l = l.longest ≡ spec.longest (take l.row-index l.rows)
