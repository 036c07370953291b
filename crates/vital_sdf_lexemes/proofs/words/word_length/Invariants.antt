use Rattle.std.proofs.Common.{◌≡◌, ◌+◌, length}
use Rattle.vital_sdf_lexemes.specs.Words.{word_length}
use Rattle.vital_sdf_lexemes.proofs.words.word_length.Given as goal

abbrev pub invariant-loop-rest : goal.invariant-loop-rest
invariant-loop-rest l = record {
  counted : l.count + word_length l.rest ≡ word_length l.bytes;
  passed : l.count + length l.rest ≡ length l.bytes;
}

abbrev pub decreases-loop-rest : goal.decreases-loop-rest
decreases-loop-rest l = length l.rest
