use Rattle.std.proofs.Common.{◌≡◌, ◌++◌, drop, map}
use Rattle.std.specs.Option.{option_copied}
use Rattle.vital_uses.specs.Nodes.{nodes_in}
use Rattle.vital_uses.specs.Sited.{beside, lent_node}
use Rattle.vital_uses.proofs.nodes.put_nodes_beside.Given as goal

abbrev pub invariant-loop-declaration : goal.invariant-loop-declaration
invariant-loop-declaration g l =
    map lent_node l.nodes.items ++ nodes_in g.P.PartsOf.parts_are (beside l.unit (option_copied l.process) l.places (drop l.declaration-index l.declarations))
    ≡ map lent_node l.initial.nodes.items ++ nodes_in g.P.PartsOf.parts_are (beside l.unit (option_copied l.process) l.viewpoints l.declarations)
