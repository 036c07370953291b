use Rattle.vital_ll.specs.Table.{IsPartOfRow}
use Rattle.vital_ll.proofs.blocks.Analysis.row.Given as goal

abbrev pub invariant-loop-alternative : goal.invariant-loop-alternative
invariant-loop-alternative l = IsPartOfRow l.self.rules.now l.rule l.block.base l.alternative l.choices l.seen
