use Rattle.std.proofs.Common.{◌≡◌, length}
use Rattle.vital_sdf_lexemes.specs.Numbers.{ends_number}
use Rattle.vital_sdf_lexemes.proofs.numbers.ends_number.Given as goal

abbrev pub invariant-loop-rest : goal.invariant-loop-rest
invariant-loop-rest l = ends_number l.rest ≡ ends_number l.bytes

abbrev pub decreases-loop-rest : goal.decreases-loop-rest
decreases-loop-rest l = length l.rest
