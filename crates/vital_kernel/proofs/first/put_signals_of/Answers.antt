use Rattle.std.proofs.Common.{◌<◌, length, arith}
use Rattle.vital_logic.specs.declared.level.Level.TheVariants.{U}
use Rattle.vital_netlist.specs.declared.design_lists.DesignDriver.{DesignDriver}
use Rattle.vital_kernel.proofs.first.put_signals_of.Goals as goal

pub overflow_cast-driver : goal.overflow_cast-driver
overflow_cast-driver c =
    let none : DesignDriver = record { signal = 0; initial = U } in
    let within : c.loop-driver.driver-index < length c.args.drivers.now = omega arith in
    omega (arith, c.requires c.loop-driver.driver-index none within)
