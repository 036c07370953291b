use Rattle.std.proofs.Common.{map}
use Rattle.vital_netlist.specs.Netlists.{HasConnections}
use Rattle.vital_netlist.proofs.connection_table.connections_of.Given as goal

abbrev pub invariant-loop-entity : goal.invariant-loop-entity
invariant-loop-entity l = HasConnections l.parts.library.now l.parts.instances.now l.entity (map (λ ks. ks.items) l.found.items)
