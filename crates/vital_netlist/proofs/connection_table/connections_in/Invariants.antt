use Rattle.vital_netlist.proofs.TableLemmas.{AreFirst}
use Rattle.vital_netlist.proofs.connection_table.connections_in.Given as goal

abbrev pub invariant-loop-child : goal.invariant-loop-child
invariant-loop-child l = AreFirst l.parts.library.now l.entity l.child-index l.found.items
