use Rattle.std.proofs.Common.{List, ◌≤◌, length, subst, ◌∙◌}
use Rattle.vital_instances.specs.declared.instance.Instance.{Instance}
use Rattle.vital_netlist.proofs.WiringLemmas.{drivers-all, drivers-turn, wiring-all, wiring-turn}
use Rattle.vital_netlist.proofs.wiring.Wired.new.Goals as goal

pub loop-number-preserved : goal.loop-number-preserved
loop-number-preserved c =
    let netlist = c.args.netlist.now in
    let items = c.instances-instance-items.result.now in
    let k = c.loop-number.number in
    record {
      wiring =
          wiring-turn netlist c.args.cells.now items k _ c.loop-number.wired.wiring.items c.put_if_cell.new.self.wiring.items
          c.requires.cells c.instances-instance-items.ensures c.loop-number-test.true c.loop-number.invariant.wiring c.in_ok-put_if_cell.ensures.wiring;
      drivers =
          drivers-turn netlist c.args.cells.now items k _ c.loop-number.wired.drivers.items c.put_if_cell.new.self.drivers.items
          c.requires.cells c.instances-instance-items.ensures (c.bits_have_signals.ensures netlist.files netlist.instances c.requires.entered) c.loop-number-test.true
          c.loop-number.invariant.drivers c.in_ok-put_if_cell.ensures.drivers;
    }

pub returns-clause-wiring : goal.returns-clause-wiring
returns-clause-wiring c =
    let k = c.loop-number.number in
    c.loop-number.invariant.wiring
    ∙ wiring-all c.args.netlist.now.files c.args.netlist.now.instances k
    (subst (λ (is : List Instance). length is ≤ k) c.instances-instance-items.ensures c.loop-number-test.false)

pub returns-clause-drivers : goal.returns-clause-drivers
returns-clause-drivers c =
    let k = c.loop-number.number in
    c.loop-number.invariant.drivers
    ∙ drivers-all c.args.netlist.now.files c.args.netlist.now.instances k
    (subst (λ (is : List Instance). length is ≤ k) c.instances-instance-items.ensures c.loop-number-test.false)
