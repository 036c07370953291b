use Rattle.std.proofs.Common.{◌≡◌, ◌++◌, map, take}
use Rattle.std.specs.List.{filter_map}
use Rattle.vital_uses.specs.Asked.{asked_at, lent_asked}
use Rattle.vital_uses.specs.Sited.{lent_node}
use Rattle.vital_uses.proofs.asked.put_asked_at.Given as goal

abbrev pub invariant-loop-node : goal.invariant-loop-node
invariant-loop-node l = map lent_asked l.all.items ≡ map lent_asked l.initial.all.items ++ filter_map (asked_at l.names) (map lent_node (take l.node-index l.nodes))
