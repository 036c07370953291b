use Rattle.std.proofs.Common.{◌∙◌, ap, map, subst, sym, take, List, [], arith}
use Rattle.std.specs.Option.{option_map_or}
use Rattle.vital_associations.specs.Associations.{lent as lent-association}
use Rattle.vital_connections.specs.Connections.{AreApart, connection, own_bits}
use Rattle.vital_connections.specs.Objects.{Object, lent, shape_at}
use Rattle.vital_connections.specs.Spans.{Kept}
use Rattle.vital_instances.specs.Children.{lent as lent-child}
use Rattle.vital_instances.specs.Contents.{children_at}
use Rattle.vital_netlist.specs.declared.unit.Unit.{Unit}
use Rattle.vital_netlist.proofs.ShapeLemmas.{child_apart, child_found}
use Rattle.vital_netlist.proofs.TableLemmas.{AreFirst, child_at, children_many, connections_made, first_all, first_more, first_none, ports_kept, ports_within}
use Rattle.vital_netlist.proofs.connection_table.connections_in.Goals as goal

pub loop-child-init : goal.loop-child-init
loop-child-init c =
    let P : List Kept → Type 0 = AreFirst c.args.parts.now.library.now c.args.entity 0 in
    subst P (sym c.new-found.ensures.items) (first_none c.args.parts.now.library.now c.args.entity)

pub ports_of-ports-requires : goal.ports_of-ports-requires
ports_of-ports-requires c = λ u e.
    ports_within c.args.parts.now.library.now c.args.parts.now.instances.now c.args.units.now c.child-item.result.entity u c.requires.units (sym c.unit_in-unit.ensures ∙ e)

pub new-requires : goal.new-requires
new-requires c =
    let files = c.args.parts.now.library.now in
    let is = c.args.parts.now.instances.now in
    let x = c.child-item.result in
    let k = c.loop-child.child-index in
    let cells = c.ports_of_cells_are_bits.ensures in
    let at = child_at files c.args.entity c.children-child-items.result.now k x (c.children-child-items.ensures ∙ ap (λ fs. children_at fs c.args.entity) c.requires.net_units) (omega arith) c.child-item.is in
    let there = child_found cells files is c.requires.good c.args.entity k (lent-child x) c.requires.found at in
    let ports = ap (map lent) (c.ports_of-ports.ensures ∙ ap (λ o. option_map_or (λ (u : Unit). take u.ports u.objects.items) o []) c.unit_in-unit.ensures) ∙ ports_kept files is c.args.units.now x.entity c.requires.units there in
    let P : List Object → Type 0 = λ os. AreApart (shape_at os) (map lent-association c.as_slice-associations.result.now) in
    subst P (sym ports)
    (rw c.as_slice-associations.ensures
    (child_apart cells files is c.requires.good c.associations_are_apart.ensures.apart c.args.entity k (lent-child x) c.requires.found at))

pub loop-child-preserved : goal.loop-child-preserved
loop-child-preserved c =
    let files = c.args.parts.now.library.now in
    let is = c.args.parts.now.instances.now in
    let x = c.child-item.result in
    let k = c.loop-child.child-index in
    let cells = c.ports_of_cells_are_bits.ensures in
    let at = child_at files c.args.entity c.children-child-items.result.now k x (c.children-child-items.ensures ∙ ap (λ fs. children_at fs c.args.entity) c.requires.net_units) (omega arith) c.child-item.is in
    let there = child_found cells files is c.requires.good c.args.entity k (lent-child x) c.requires.found at in
    let ports = ap (map lent) (c.ports_of-ports.ensures ∙ ap (λ o. option_map_or (λ (u : Unit). take u.ports u.objects.items) o []) c.unit_in-unit.ensures) ∙ ports_kept files is c.args.units.now x.entity c.requires.units there in
    let ps = map lent c.ports_of-ports.result.now in
    let ss = map lent c.args.signals.now in
    let one = connections_made files c.args.entity (lent-child x) ps ss c.in_ok-connections.connections ports c.requires.signals
    (λ port bit. c.in_ok-connections.ensures.spans port bit ∙ ap (λ made. connection (shape_at ps) (shape_at ss) port bit (map lent-association made)) c.as_slice-associations.ensures)
    (c.in_ok-connections.ensures.own ∙ ap (λ made. own_bits (λ port bit. connection (shape_at ps) (shape_at ss) port bit (map lent-association made)) ps) c.as_slice-associations.ensures) in
    first_more files c.args.entity k c.loop-child.found.items c.push.new.self.items (lent-child x) c.in_ok-connections.connections c.loop-child.invariant at one c.in_ok-push.ensures.items

pub returns : goal.returns
returns c =
    let files = c.args.parts.now.library.now in
    let many = children_many files c.args.entity c.children-child-items.result.now (c.children-child-items.ensures ∙ ap (λ fs. children_at fs c.args.entity) c.requires.net_units) in
    first_all files c.args.parts.now.instances.now c.args.entity c.loop-child.found.items c.loop-child.child-index c.loop-child.invariant (omega (arith, many))
