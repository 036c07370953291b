use Rattle.vital_ll.specs.Table.{AreRows}
use Rattle.vital_ll.proofs.blocks.Analysis.rows.Given as goal

abbrev pub invariant-loop-block : goal.invariant-loop-block
invariant-loop-block l = AreRows l.self.rules.now l.rule l.block-index l.rows.items
