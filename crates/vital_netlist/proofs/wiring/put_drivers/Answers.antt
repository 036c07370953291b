use Rattle.vital_netlist.specs.Wiring.{objects_of}
use Rattle.vital_netlist.proofs.DriverLemmas.{driver-turn}
use Rattle.vital_netlist.proofs.wiring.put_drivers.Goals as goal

pub loop-number-preserved : goal.loop-number-preserved
loop-number-preserved c =
    driver-turn (objects_of c.args.netlist.now c.args.instance) c.args.wires.now c.driven-number-items.result.now c.loop-number.number-index 0
    c.args.drivers.now.items c.loop-number.drivers.items c.put_driver.new.drivers.items
    c.loop-number-test.true c.loop-number.invariant c.in_ok-put_driver.ensures
