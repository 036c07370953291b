use Rattle.std.proofs.Common.{◌≡◌, ◌++◌, map, take}
use Rattle.std.specs.List.{flat_map}
use Rattle.vital_associations.specs.Identifiers.{identifiers_of_node}
use Rattle.vital_nodes.specs.Seen.{seen}
use Rattle.vital_associations.proofs.identifiers.put_identifiers_of_all.Given as goal

abbrev pub invariant-loop-node : goal.invariant-loop-node
invariant-loop-node l = map (λ i. i.now) l.found.items ≡ map (λ i. i.now) l.initial.found.items ++ flat_map identifiers_of_node (map seen (take l.node-index l.nodes))
