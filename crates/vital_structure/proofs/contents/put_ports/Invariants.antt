use Rattle.std.proofs.Common.{◌≡◌, ◌++◌, map, take}
use Rattle.vital_structure.specs.Contents.{content_of_port, lent}
use Rattle.vital_structure.proofs.contents.put_ports.Given as goal

abbrev pub invariant-loop-port : goal.invariant-loop-port
invariant-loop-port l = map lent l.contents.items ≡ map lent l.initial.contents.items ++ map content_of_port (take l.port-index l.ports)
