use Rattle.std.proofs.Common.{[], ◌∷◌, ◌∙◌, ap, map}
use Rattle.std.proofs.lemmas.List.{map-append}
use Rattle.vital_netlist.proofs.TableLemmas.{connections_more, connections_none}
use Rattle.vital_netlist.proofs.connection_table.connections_of.Goals as goal

pub loop-entity-init : goal.loop-entity-init
loop-entity-init c =
    rw c.new-found.ensures.items (connections_none c.args.parts.now.library.now c.args.parts.now.instances.now)

pub loop-entity-preserved : goal.loop-entity-preserved
loop-entity-preserved c =
    connections_more c.args.parts.now.library.now c.args.parts.now.instances.now c.loop-entity.entity _ _ c.in_ok-connections.connections.items c.loop-entity.invariant c.in_ok-connections.ensures
    (ap (map _) c.in_ok-push.ensures.items ∙ map-append _ c.loop-entity.found.items (c.in_ok-connections.connections ∷ []))
