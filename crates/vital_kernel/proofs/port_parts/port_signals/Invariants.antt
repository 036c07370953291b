use Rattle.std.proofs.Common.{◌≡◌, ◌++◌, map}
use Rattle.vital_kernel.specs.PortNetworks.{port_signal}
use Rattle.vital_kernel.proofs.port_parts.port_signals.Given as goal

abbrev pub invariant-loop-port : goal.invariant-loop-port
invariant-loop-port l = l.signals.items ++ map port_signal l.port-iterator.rest.items ≡ map port_signal l.fn.bits.items
