use Rattle.std.proofs.Common.{List, take, subst, sym, arith}
use Rattle.std.proofs.lemmas.List.{take_more}
use Rattle.vital_instances.specs.declared.instance.Instance.{Instance}
use Rattle.vital_netlist.specs.Netlists.{HasUnits}
use Rattle.vital_netlist.proofs.unit_table.units_of.Goals as goal

pub loop-instance-preserved : goal.loop-instance-preserved
loop-instance-preserved c =
    let is = c.args.parts.now.instances.now in
    let k = c.loop-instance.instance-index in
    let P : List Instance → Type 0 = λ js. HasUnits c.args.parts.now.library.now js c.put_unit.new.units.items in
    subst P (sym (take_more is k _ (omega arith))) (c.in_ok-put_unit.ensures (take k is) c.loop-instance.invariant)
