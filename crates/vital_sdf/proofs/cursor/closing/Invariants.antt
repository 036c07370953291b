use Rattle.std.proofs.Common.{◌≡◌, ◌+◌, ◌≤◌, drop}
use Rattle.vital_sdf.specs.Reading.{closing}
use Rattle.vital_sdf.proofs.cursor.closing.Given as goal

abbrev pub invariant-loop-at : goal.invariant-loop-at
invariant-loop-at l = record {
  passed : closing 0 l.tokens ≡ l.at + closing l.depth (drop l.at l.tokens);
  few : l.depth ≤ l.at;
}
