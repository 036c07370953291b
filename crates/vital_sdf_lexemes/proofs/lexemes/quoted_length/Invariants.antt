use Rattle.std.proofs.Common.{◌≡◌, ◌+◌, length}
use Rattle.std.specs.Prelude.{option_map}
use Rattle.vital_sdf_lexemes.specs.Lexemes.{quoted_length}
use Rattle.vital_sdf_lexemes.proofs.lexemes.quoted_length.Given as goal

abbrev pub invariant-loop-rest : goal.invariant-loop-rest
invariant-loop-rest l = record {
  counted : option_map (λ n. l.count + n) (quoted_length l.rest) ≡ quoted_length l.bytes;
  passed : l.count + length l.rest ≡ length l.bytes;
}

abbrev pub decreases-loop-rest : goal.decreases-loop-rest
decreases-loop-rest l = length l.rest
