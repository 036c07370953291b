use Rattle.std.proofs.Common.{◌≡◌, ◌≤◌, ◌++◌, drop, length, map}
use Rattle.vital_connections.specs.Runs.{bits_of_runs}
use Rattle.vital_netlist.specs.Bits.{bit}
use Rattle.vital_netlist.specs.Nets.{most_signals}
use Rattle.vital_netlist.proofs.signals.put_runs.Given as goal

abbrev pub invariant-loop-run : goal.invariant-loop-run
invariant-loop-run l = record {
  total : l.bits.items ++ map (bit l.instance) (bits_of_runs (drop l.run-index l.runs)) ≡ l.initial.bits.items ++ map (bit l.instance) (bits_of_runs l.runs);
  room : length l.bits.items ≤ most_signals;
}
