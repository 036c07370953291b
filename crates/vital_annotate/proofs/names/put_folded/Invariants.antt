use Rattle.std.proofs.Common.{◌≡◌, ◌++◌, take}
use Rattle.vital_annotate.specs.Names.{folded}
use Rattle.vital_annotate.proofs.names.put_folded.Given as goal

abbrev pub invariant-loop-byte : goal.invariant-loop-byte
invariant-loop-byte l = l.name.items ≡ l.initial.name.items ++ folded (take l.byte-index l.word)
