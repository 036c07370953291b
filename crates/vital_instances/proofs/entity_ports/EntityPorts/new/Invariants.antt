use Rattle.std.proofs.Common.{◌≡◌, map, take}
use Rattle.vital_library.specs.Units.{entities}
use Rattle.vital_instances.proofs.entity_ports.EntityPorts.new.Given as goal

abbrev pub invariant-loop-number : goal.invariant-loop-number
invariant-loop-number l = l.formals.items ≡ map (λ e. e.ports) (take l.number (entities l.library))
