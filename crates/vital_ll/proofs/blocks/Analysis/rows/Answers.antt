use Rattle.std.proofs.Common.{◌+◌, Some, ap, ◌∙◌, sym, subst}
use Rattle.std.proofs.lemmas.Option.{slice_get-get_or}
use Rattle.vital_ll.specs.Table.{AreRows, IsRow}
use Rattle.vital_ll.proofs.Entries.{rows_more}
use Rattle.vital_ll.proofs.blocks.Analysis.rows.Goals as goal

pub loop-block-preserved : goal.loop-block-preserved
loop-block-preserved c =
    let g = c.args.self.now.rules.now in
    let block = c.requires.blocks c.loop-block.block-index c.block-item.result (slice_get-get_or c.args.blocks.now c.loop-block.block-index c.block-item.result c.loop-block-test.true ∙ ap Some (sym c.block-item.is)) in
    subst (AreRows g c.args.rule (c.loop-block.block-index + 1)) (sym c.in_ok-push.ensures.items)
    (rows_more g c.args.rule c.loop-block.block-index c.loop-block.rows.items c.in-Some.row (subst (λ b. IsRow g c.args.rule b c.in-Some.row) block.base_is c.in-Some.ensures.row) c.loop-block.invariant)
