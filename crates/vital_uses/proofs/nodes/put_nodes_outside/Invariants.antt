use Rattle.std.proofs.Common.{◌≡◌, map, take, ◌++◌}
use Rattle.std.specs.List.{flat_map}
use Rattle.vital_uses.specs.Nodes.{nodes_outside}
use Rattle.vital_uses.specs.Sited.{lent_node}
use Rattle.vital_uses.proofs.nodes.put_nodes_outside.Given as goal

abbrev pub invariant-loop-conc : goal.invariant-loop-conc
invariant-loop-conc l = map lent_node l.nodes.items ≡ map lent_node l.initial.nodes.items ++ flat_map nodes_outside (map (λ y. y.now) (take l.conc-index l.statements))
