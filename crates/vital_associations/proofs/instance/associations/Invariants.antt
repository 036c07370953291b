use Rattle.std.proofs.Common.{◌≡◌, [], map, drop}
use Rattle.vital_associations.specs.Associations.{lent, port_map}
use Rattle.vital_associations.specs.PortMaps.{associated_behind}
use Rattle.vital_associations.specs.Spans.{AreApart, HasSpans}
use Rattle.vital_associations.proofs.instance.associations.Given as goal

abbrev pub invariant-loop-item : goal.invariant-loop-item
invariant-loop-item l =
    (associated_behind (port_map l.port_map) [] l.items ≡ associated_behind (port_map l.port_map) (map lent l.found.items) (drop l.item-index l.items))
    × AreApart l.spans.entries
    × HasSpans (port_map l.port_map) (map lent l.found.items) l.spans.entries
