use Rattle.vital_netlist.specs.Wiring.{objects_of}
use Rattle.vital_netlist.proofs.DriverLemmas.{no-driver}
use Rattle.vital_netlist.proofs.wiring.put_driver.Goals as goal

pub returns-in_default : goal.returns-in_default
returns-in_default c =
    no-driver (objects_of c.args.netlist.now c.args.instance) c.args.wires.now c.args.number c.args.drivers.now.items c.in_default.ensures.lookup.3
