use Rattle.std.proofs.Common.{arith}
use Rattle.vital_kernel.proofs.PortsNamed.{named-all}
use Rattle.vital_kernel.proofs.stimulated.named_ports.Goals as goal

pub returns : goal.returns
returns c = named-all c.args.lines.now c.loop-line.line-index c.args.ports c.loop-line.named.items (omega arith) c.loop-line.invariant
