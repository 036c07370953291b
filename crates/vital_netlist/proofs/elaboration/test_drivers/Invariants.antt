use Rattle.vital_netlist.proofs.CountLemmas.{NoneBefore}
use Rattle.vital_netlist.proofs.elaboration.test_drivers.Given as goal

abbrev pub invariant-loop-number : goal.invariant-loop-number
invariant-loop-number l = NoneBefore l.netlist.files l.netlist.instances l.signals l.number
