use Rattle.std.proofs.Common.{◌≡◌, ◌≤◌, ◌-◌, length, take}
use Rattle.vital_base.specs.Sinks.{appended}
use Rattle.vital_base.proofs.write.write_all.Given as goal

abbrev pub invariant-loop-written : goal.invariant-loop-written
invariant-loop-written g l = record {
  within : l.written ≤ length l.piece;
  appends : g.K.Sink.told l.sink ≡ appended (g.K.Sink.told l.initial.sink) (take l.written l.piece);
  same_count : g.K.Sink.faults l.sink ≡ g.K.Sink.faults l.initial.sink;
  keeps_may_stick : g.K.Sink.may_stick l.initial.sink → g.K.Sink.may_stick l.sink;
}

abbrev pub decreases-loop-written : goal.decreases-loop-written
decreases-loop-written g l = length l.piece - l.written
