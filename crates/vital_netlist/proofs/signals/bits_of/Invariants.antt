use Rattle.std.proofs.Common.{◌≡◌, ◌≤◌, ◌++◌, length}
use Rattle.vital_netlist.specs.Nets.{most_signals, signals}
use Rattle.vital_netlist.proofs.SignalLemmas.{rest}
use Rattle.vital_netlist.proofs.signals.bits_of.Given as goal

abbrev pub invariant-loop-instance : goal.invariant-loop-instance
invariant-loop-instance l = record {
  total : l.bits.items ++ rest l.netlist.files l.netlist.instances l.instance ≡ signals l.netlist.files l.netlist.instances;
  room : length l.bits.items ≤ most_signals;
}
