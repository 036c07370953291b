use Rattle.std.proofs.Common.{◌≡◌, length}
use Rattle.vital_ll.specs.Passes.{AreBlocks}
use Rattle.vital_ll.proofs.blocks.Analysis.blocks.Given as goal

abbrev pub invariant-loop-index : goal.invariant-loop-index
invariant-loop-index l = (length l.blocks.items ≡ l.index) × AreBlocks l.self.rules.now l.self.nullable.now l.blocks.items
