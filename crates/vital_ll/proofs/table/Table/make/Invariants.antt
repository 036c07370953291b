use Rattle.vital_ll.specs.Table.{AreColumns}
use Rattle.vital_ll.proofs.table.Table.make.Given as goal

abbrev pub invariant-loop-bit : goal.invariant-loop-bit
invariant-loop-bit l = AreColumns l.rules l.expansions l.bit l.columns.items
