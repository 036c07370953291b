use Rattle.std.proofs.Common.{◌≡◌, take}
use Rattle.vital_declaration_clauses.specs.Clauses.{of_ports}
use Rattle.vital_declaration_clauses.proofs.clauses.clause_18.Given as goal

abbrev pub invariant-loop-port : goal.invariant-loop-port
invariant-loop-port l = l.places.items ≡ of_ports (take l.port-index l.ports)
