use Rattle.std.proofs.Common.{◌≡◌, map, take}
use Rattle.vital_structure.specs.Shapes.{lent, shape_of_port}
use Rattle.vital_associations.proofs.formals.shapes_of.Given as goal

abbrev pub invariant-loop-port : goal.invariant-loop-port
invariant-loop-port l = map lent l.shapes.items ≡ map shape_of_port (take l.port-index l.ports)
