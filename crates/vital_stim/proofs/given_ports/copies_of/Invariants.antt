use Rattle.std.proofs.Common.{◌≡◌, take}
use Rattle.vital_stim.proofs.given_ports.copies_of.Given as goal

abbrev pub invariant-loop-port : goal.invariant-loop-port
invariant-loop-port l = l.copied.items ≡ take l.port-index l.ports
