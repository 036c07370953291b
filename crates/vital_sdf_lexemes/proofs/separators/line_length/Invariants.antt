use Rattle.std.proofs.Common.{◌≡◌, ◌+◌, length}
use Rattle.vital_sdf_lexemes.specs.Separators.{line_length}
use Rattle.vital_sdf_lexemes.proofs.separators.line_length.Given as goal

abbrev pub invariant-loop-rest : goal.invariant-loop-rest
invariant-loop-rest l = record {
  counted : l.count + line_length l.rest ≡ line_length l.bytes;
  passed : l.count + length l.rest ≡ length l.bytes;
}

abbrev pub decreases-loop-rest : goal.decreases-loop-rest
decreases-loop-rest l = length l.rest
