use Rattle.std.proofs.Common.{subst, sym, arith}
use Rattle.vital_instances.specs.Units.{lent as lent'}
use Rattle.vital_netlist.specs.Cells.{Netlist as Netlist'}
use Rattle.vital_netlist.specs.Netlists.{IsUnit}
use Rattle.vital_netlist.proofs.TableLemmas.{units_put}
use Rattle.vital_netlist.proofs.DesignUnitLemmas.{unit_within}
use Rattle.vital_netlist.proofs.unit_table.put_unit.Goals as goal

pub returns : goal.returns
returns c = λ is has.
    let files = c.args.parts.now.library.now in
    let e = c.args.instance.now.entity in
    let there = unit_within files e (lent' c.in-Some.unit) (sym c.in-Some.ensures.unit) in
    let P : Netlist' → Type 0 = λ n. IsUnit n.files e c.in_ok-unit.unit in
    units_put files is c.args.instance.now c.args.units.now.items c.put.new.units.items c.in_ok-unit.unit (omega (arith, there, c.requires.room)) c.put.ensures
    (subst P c.requires.cells c.in_ok-unit.ensures) has
