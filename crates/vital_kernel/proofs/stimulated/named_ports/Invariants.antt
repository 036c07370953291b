use Rattle.std.proofs.Common.{take}
use Rattle.vital_kernel.proofs.PortsNamed.{AreNamed}
use Rattle.vital_kernel.proofs.stimulated.named_ports.Given as goal

abbrev pub invariant-loop-line : goal.invariant-loop-line
invariant-loop-line l = AreNamed (take l.line-index l.lines) l.ports l.named.items
