use Rattle.std.proofs.Common.{◌≡◌, take}
use Rattle.vital_naturals.specs.Numerals.{number}
use Rattle.vital_naturals.proofs.word.word_of_literal.Given as goal

abbrev pub invariant-loop-byte : goal.invariant-loop-byte
invariant-loop-byte l = l.word ≡ number (take l.byte-index l.literal)
