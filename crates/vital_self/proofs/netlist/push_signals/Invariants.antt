use Rattle.std.proofs.Common.{◌≡◌, ◌++◌}
use Rattle.vital_self.specs.Lines.{texts_below}
use Rattle.vital_self.specs.Netlist.{signal}
use Rattle.vital_self.proofs.netlist.push_signals.Given as goal

abbrev pub invariant-loop-k : goal.invariant-loop-k
invariant-loop-k l = l.text.items ≡ l.initial.text.items ++ texts_below signal l.k
