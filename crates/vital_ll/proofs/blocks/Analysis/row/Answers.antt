use Rattle.std.proofs.Common.{get_or, length, [], ap, ◌∙◌, arith, rules}
use Rattle.vital_ll.proofs.Entries.{row_none, row_more, row_conflict, row_done}
use Rattle.vital_ll.proofs.Listings.{there_at}
use Rattle.vital_ll.proofs.blocks.Analysis.row.Goals as goal

pub loop-alternative-init : goal.loop-alternative-init
loop-alternative-init c = row_none c.args.self.now.rules.now c.args.rule c.args.block.now.base

pub choice_mask-mask-requires-clause-there : goal.choice_mask-mask-requires-clause-there
choice_mask-mask-requires-clause-there c =
    let count = c.alternative_count-alternative-end.ensures ∙ ap (λ r. length (get_or c.args.self.now.rules.now r [])) c.from.ensures in
    there_at c.args.self.now.rules.now c.args.rule c.loop-alternative.alternative c.requires.rule (omega (arith, count, c.loop-alternative-test.true))

pub returns-then-seen-mask-ne0-clause-conflict : goal.returns-then-seen-mask-ne0-clause-conflict
returns-then-seen-mask-ne0-clause-conflict c =
    row_conflict c.args.self.now.rules.now c.args.rule c.args.block.now.base c.loop-alternative.alternative c.loop-alternative.choices c.loop-alternative.seen c.choice_mask-mask.result c.choice_mask-mask.ensures
    (λ e. c.if-seen-mask-ne0.true e) (search rules) c.loop-alternative.invariant

pub loop-alternative-preserved : goal.loop-alternative-preserved
loop-alternative-preserved c =
    row_more c.args.self.now.rules.now c.args.rule c.args.block.now.base c.loop-alternative.alternative c.loop-alternative.choices c.choose.new.choices c.loop-alternative.seen c.choice_mask-mask.result
    (search rules) c.choice_mask-mask.ensures c.if-seen-mask-ne0.false c.choose.ensures c.loop-alternative.invariant

pub returns-clause-row : goal.returns-clause-row
returns-clause-row c =
    let count = c.alternative_count-alternative-end.ensures ∙ ap (λ r. length (get_or c.args.self.now.rules.now r [])) c.from.ensures in
    row_done c.args.self.now.rules.now c.args.rule c.args.block.now.base c.loop-alternative.alternative c.loop-alternative.seen c.loop-alternative.choices c.requires.rule (omega (arith, count)) c.loop-alternative.invariant
