use Rattle.std.proofs.Common.{◌∷◌, [], sym, subst, ap, length, arith}
use Rattle.std.proofs.lemmas.List.{length-append}
use Rattle.vital_ll.specs.Passes.{AreBlocks}
use Rattle.vital_ll.proofs.Entries.{blocks_more}
use Rattle.vital_ll.proofs.blocks.Analysis.blocks.Goals as goal

pub loop-index-preserved : goal.loop-index-preserved
loop-index-preserved c =
    let a = c.args.self.now in (
      omega (arith, ap length c.in_ok-push.ensures.items, length-append c.loop-index.blocks.items (c.in_ok-block.field-0 ∷ []), c.loop-index.invariant.0),
      subst (AreBlocks a.rules.now a.nullable.now) (sym c.in_ok-push.ensures.items)
          (blocks_more a.rules.now a.nullable.now c.loop-index.index c.loop-index.blocks.items c.in_ok-block.field-0 c.loop-index.invariant.0 c.loop-index.invariant.1 c.in_ok-block.ensures),
    )
