use Rattle.vital_netlist.proofs.TableLemmas.{AreNone}
use Rattle.vital_netlist.proofs.unit_table.no_units.Given as goal

abbrev pub invariant-loop : goal.invariant-loop
invariant-loop l = AreNone l.counter l.units.items
