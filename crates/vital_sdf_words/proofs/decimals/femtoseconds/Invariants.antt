use Rattle.std.proofs.Common.{take}
use Rattle.vital_sdf_words.specs.Readings.{Reads}
use Rattle.vital_sdf_words.proofs.decimals.femtoseconds.Given as goal

abbrev pub invariant-loop-byte : goal.invariant-loop-byte
invariant-loop-byte l = Reads l.power (take l.byte-index l.number) l.reading
