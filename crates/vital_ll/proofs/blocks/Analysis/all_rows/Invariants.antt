use Rattle.std.proofs.Common.{length}
use Rattle.vital_ll.proofs.Entries.{AreTableRows}
use Rattle.vital_ll.proofs.blocks.Analysis.all_rows.Given as goal

abbrev pub invariant-loop-rule : goal.invariant-loop-rule
invariant-loop-rule l = AreTableRows l.self.rules.now (length l.blocks) l.rule l.all.items
