use Rattle.std.proofs.Common.{◌≡◌, ◌++◌, map, take}
use Rattle.std.specs.List.{flat_map}
use Rattle.vital_call_clauses.specs.Clauses as spec
use Rattle.vital_uses.specs.Sited.{lent_node}
use Rattle.vital_call_clauses.proofs.clauses.put_wrong_nodes.Given as goal

abbrev pub invariant-loop-node : goal.invariant-loop-node
invariant-loop-node l = l.places.items ≡ l.initial.places.items ++ flat_map (spec.wrong_node l.names) (map lent_node (take l.node-index l.nodes))
