use Rattle.std.proofs.Common.{◌≡◌, length}
use Rattle.vital_report.specs.Held.{Going}
use Rattle.vital_report.proofs.held.Held.put_long.Given as goal

abbrev pub invariant-loop-rest : goal.invariant-loop-rest
invariant-loop-rest g l = record {
  going : Going (g.K.Sink.told l.initial.sink) l.initial.self l.text (g.K.Sink.told l.sink) l.self l.rest;
  same_count : g.K.Sink.faults l.sink ≡ g.K.Sink.faults l.initial.sink;
  keeps_may_stick : g.K.Sink.may_stick l.initial.sink → g.K.Sink.may_stick l.sink;
}

abbrev pub decreases-loop-rest : goal.decreases-loop-rest
decreases-loop-rest g l = length l.rest
