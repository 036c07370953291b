use Rattle.std.proofs.Common.{◌≡◌, ◌++◌, false, drop, map}
use Rattle.std.specs.Prelude.{filter, slice_index_or}
use Rattle.std.specs.List.{enumerate_from}
use Rattle.vital_kernel.specs.DesignNetworks.{stimulus_driver}
use Rattle.vital_kernel.proofs.stimulated.drivers_of_named.Given as goal

abbrev pub invariant-loop-number : goal.invariant-loop-number
invariant-loop-number l =
    l.drivers.items ++ map stimulus_driver (filter (λ p. slice_index_or l.named p.0 false) (enumerate_from l.number (drop l.number l.ports)))
    ≡ map stimulus_driver (filter (λ p. slice_index_or l.named p.0 false) (enumerate_from 0 l.ports))
