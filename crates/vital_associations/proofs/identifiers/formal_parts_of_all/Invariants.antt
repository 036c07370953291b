use Rattle.std.proofs.Common.{◌≡◌, map, take}
use Rattle.std.specs.List.{flat_map}
use Rattle.vital_associations.specs.Identifiers.{formal_parts}
use Rattle.vital_nodes.specs.Seen.{seen}
use Rattle.vital_associations.proofs.identifiers.formal_parts_of_all.Given as goal

abbrev pub invariant-loop-node : goal.invariant-loop-node
invariant-loop-node l = map seen l.parts.items ≡ flat_map formal_parts (map seen (take l.node-index l.nodes))
