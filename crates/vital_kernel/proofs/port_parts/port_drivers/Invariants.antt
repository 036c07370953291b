use Rattle.std.proofs.Common.{◌≡◌, ◌++◌, drop, map}
use Rattle.std.specs.List.{enumerate_from}
use Rattle.vital_kernel.specs.DesignNetworks.{stimulus_driver}
use Rattle.vital_kernel.proofs.port_parts.port_drivers.Given as goal

abbrev pub invariant-loop-number : goal.invariant-loop-number
invariant-loop-number l =
    l.drivers.items ++ map stimulus_driver (enumerate_from l.number (drop l.number l.bits)) ≡ map stimulus_driver (enumerate_from 0 l.bits)
