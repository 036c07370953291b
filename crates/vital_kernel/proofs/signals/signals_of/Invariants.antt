use Rattle.std.proofs.Common.{◌≡◌, ◌++◌, drop, map}
use Rattle.std.specs.List.{enumerate_from}
use Rattle.vital_kernel.specs.DesignNetworks.{signal_of, signals_of}
use Rattle.vital_kernel.proofs.signals.signals_of.Given as goal

abbrev pub invariant-loop-number : goal.invariant-loop-number
invariant-loop-number l =
    l.signals.items ++ map (signal_of l.design l.watch) (enumerate_from l.number (drop l.number l.design.signals)) ≡ signals_of l.design l.watch
