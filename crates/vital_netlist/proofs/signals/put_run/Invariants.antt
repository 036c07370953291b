use Rattle.std.proofs.Common.{◌≡◌, ◌-◌, ◌≤◌, ◌++◌, length, map}
use Rattle.vital_connections.specs.Runs.{bits_between, bits_of_run}
use Rattle.vital_netlist.specs.Bits.{bit}
use Rattle.vital_netlist.specs.Nets.{most_signals}
use Rattle.vital_netlist.proofs.signals.put_run.Given as goal

abbrev pub invariant-loop-alloc : goal.invariant-loop-alloc
invariant-loop-alloc l = record {
  total : l.bits.items ++ map (bit l.instance) (bits_between l.object l.offset l.run.end) ≡ l.initial.bits.items ++ map (bit l.instance) (bits_of_run l.run);
  room : length l.bits.items ≤ most_signals;
}

abbrev pub decreases-loop-alloc : goal.decreases-loop-alloc
decreases-loop-alloc l = l.run.end - l.offset
