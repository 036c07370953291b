use Rattle.std.proofs.Common.{◌≡◌, ◌≤◌, length}
use Rattle.vital_timing.specs.TimeLiterals.{carried}
use Rattle.vital_timing.proofs.time_literal.fraction_of.Given as goal

abbrev pub invariant-loop-last : goal.invariant-loop-last
invariant-loop-last l = record {
  value : carried l.worth l.rest l.carry ≡ carried l.worth l.fn.bytes 0;
  small : l.carry ≤ l.worth;
}

abbrev pub decreases-loop-last : goal.decreases-loop-last
decreases-loop-last l = length l.rest
