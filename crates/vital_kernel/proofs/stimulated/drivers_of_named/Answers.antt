use Rattle.std.proofs.Common.{false, get_or, ℕ, arith}
use Rattle.vital_base.specs.declared.ports.PortBit.{PortBit}
use Rattle.vital_kernel.specs.DesignNetworks.{stimulus_driver}
use Rattle.vital_kernel.proofs.Turns.{filter-turn, rest-one}
use Rattle.vital_kernel.proofs.stimulated.drivers_of_named.Goals as goal

pub loop-number-preserved : goal.loop-number-preserved
loop-number-preserved c =
    let ports = c.args.ports.now in
    let i = c.loop-number.number in
    let port = c.index-ports-number.result in
    filter-turn stimulus_driver (λ (p : ℕ × PortBit). get_or c.args.named.now p.0 false) ports i port c.loop-number.drivers.items c.put_driver.new.drivers.items _
    (rest-one ports i port (omega arith) c.index-ports-number.is) c.loop-number.invariant c.in_ok-put_driver.ensures
