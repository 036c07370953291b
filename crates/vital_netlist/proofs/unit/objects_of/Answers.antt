use Rattle.std.proofs.Common.{◌≡◌, ◌∙◌, List, IfOk, ap, map, subst, sym}
use Rattle.vital_connections.specs.Objects.{Object, lent}
use Rattle.vital_netlist.specs.CellObjects.{objects_of_cell}
use Rattle.vital_instances.specs.Units.{lent as lent'}
use Rattle.vital_netlist.proofs.DesignUnitLemmas.{cell_objects, net_is_good, net_objects}
use Rattle.vital_netlist.proofs.unit.objects_of.Goals as goal

pub objects_of_net_unit-requires : goal.objects_of_net_unit-requires
objects_of_net_unit-requires c =
    let found = c.requires.found in
    let u = lent' c.args.unit in
    let net = sym (c.in-None.ensures.unit found.0 found.1 u found.2 found.3 c.requires.unit) in
    net_is_good c.args.cells.now.files c.args.entity u c.requires.unit net c.requires.contents

pub returns-in-Some : goal.returns-in-Some
returns-in-Some c =
    let found = c.requires.found in
    let u = lent' c.args.unit in
    let is = sym (c.in-Some.ensures.unit found.0 found.1 u found.2 found.3 c.requires.unit) in
    let same = cell_objects c.args.cells.now.files c.args.entity u c.in-Some.cell.now c.requires.unit is in
    let P : List Object → Type 0 = λ os. IfOk c.objects_of_cell.result (λ found. map lent found.items ≡ os) in
    subst P (ap objects_of_cell c.cell.ensures.value ∙ sym same) c.objects_of_cell.ensures

pub returns-in-None : goal.returns-in-None
returns-in-None c =
    let found = c.requires.found in
    let u = lent' c.args.unit in
    let net = sym (c.in-None.ensures.unit found.0 found.1 u found.2 found.3 c.requires.unit) in
    let P : List Object → Type 0 = λ os. IfOk c.objects_of_net_unit.result (λ found. map lent found.items ≡ os) in
    subst P (sym (net_objects c.args.cells.now.files c.args.entity u c.requires.unit net)) c.objects_of_net_unit.ensures
