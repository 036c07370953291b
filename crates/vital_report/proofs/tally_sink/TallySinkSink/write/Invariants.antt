use Rattle.std.proofs.Common.{◌≡◌, take}
use Rattle.vital_base.specs.Tallies.{count}
use Rattle.vital_report.proofs.tally_sink.TallySinkSink.write.Given as goal

abbrev pub invariant-loop-byte : goal.invariant-loop-byte
invariant-loop-byte l = l.self ≡ count l.initial.self (take l.byte-index l.piece)
