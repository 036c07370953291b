use Rattle.std.proofs.Common.{◌≡◌}
use Rattle.vital_netlist.proofs.WiringLemmas.{drivers_before, wiring_before}
use Rattle.vital_netlist.proofs.wiring.Wired.new.Given as goal

abbrev pub invariant-loop-number : goal.invariant-loop-number
invariant-loop-number l = record {
  wiring : l.wired.wiring.items ≡ wiring_before l.netlist.files l.netlist.instances l.number;
  drivers : l.wired.drivers.items ≡ drivers_before l.netlist.files l.netlist.instances l.number;
}
