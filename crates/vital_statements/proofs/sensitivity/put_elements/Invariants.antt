use Rattle.std.proofs.Common.{◌≡◌, ◌++◌, map, take}
use Rattle.std.specs.Prelude.{filter, not}
use Rattle.vital_nodes.specs.Places.{place_of_name}
use Rattle.vital_statements.specs.Clauses.{is_input}
use Rattle.vital_statements.proofs.sensitivity.put_elements.Given as goal

abbrev pub invariant-loop-element : goal.invariant-loop-element
invariant-loop-element l = l.places.items ≡ l.initial.places.items ++ map place_of_name (filter (λ r. not (is_input l.names r)) (take l.element-index l.elements))
