use Rattle.std.proofs.Common.{◌≡◌, ◌+◌, length}
use Rattle.std.specs.Prelude.{option_map}
use Rattle.vital_sdf_lexemes.specs.Separators.{closed_length}
use Rattle.vital_sdf_lexemes.proofs.separators.closed_length.Given as goal

abbrev pub invariant-loop-rest : goal.invariant-loop-rest
invariant-loop-rest l = record {
  counted : option_map (λ n. l.count + n) (closed_length l.rest) ≡ closed_length l.bytes;
  passed : l.count + length l.rest ≡ length l.bytes;
}

abbrev pub decreases-loop-rest : goal.decreases-loop-rest
decreases-loop-rest l = length l.rest
