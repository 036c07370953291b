use Rattle.std.proofs.Common.{◌≡◌, ◌++◌, length, map, reverse}
use Rattle.vital_nodes.specs.Walk.{nodes_of_all}
use Rattle.vital_nodes.specs.Seen.{seen}
use Rattle.vital_nodes.proofs.walk.nodes_of_all.Given as goal

abbrev pub invariant-loop-node : goal.invariant-loop-node
invariant-loop-node l = map seen l.nodes.items ++ nodes_of_all (reverse (map seen l.waiting.items)) ≡ nodes_of_all (map seen l.fn.parts.items)

abbrev pub decreases-loop-node : goal.decreases-loop-node
decreases-loop-node l = length (nodes_of_all (reverse (map seen l.waiting.items)))
