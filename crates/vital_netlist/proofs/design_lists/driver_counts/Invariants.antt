use Rattle.std.proofs.Common.{◌≡◌, length, take}
use Rattle.vital_netlist.proofs.DesignCountLemmas.{AreCounted}
use Rattle.vital_netlist.proofs.design_lists.driver_counts.Given as goal

abbrev pub invariant-loop-driver : goal.invariant-loop-driver
invariant-loop-driver l = (length l.counts.items ≡ l.signals) × AreCounted (λ d. d.signal) (take l.driver-index l.drivers) l.signals l.counts.items
