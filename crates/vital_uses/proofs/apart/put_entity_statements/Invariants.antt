use Rattle.std.proofs.Common.{◌≡◌, map, take, ◌++◌}
use Rattle.std.specs.List.{flat_map}
use Rattle.vital_uses.specs.Apart.{nodes_of_entity_statement}
use Rattle.vital_uses.specs.Sited.{lent_node}
use Rattle.vital_uses.proofs.apart.put_entity_statements.Given as goal

abbrev pub invariant-loop-conc : goal.invariant-loop-conc
invariant-loop-conc l = map lent_node l.nodes.items ≡ map lent_node l.initial.nodes.items ++ flat_map nodes_of_entity_statement (take l.conc-index l.statements)
