use Rattle.std.proofs.Common.{◌≡◌}
use Rattle.vital_netlist.specs.Nets.{net}
use Rattle.vital_netlist.proofs.netlist.Netlist.net.Given as goal

abbrev pub invariant-loop-net : goal.invariant-loop-net
invariant-loop-net l = net l.self.files l.self.instances l.net ≡ net l.self.files l.self.instances l.fn.bit

abbrev pub decreases-loop-net : goal.decreases-loop-net
decreases-loop-net l = l.net.instance
