use Rattle.std.proofs.Common.{◌+◌, get_or, ap, ◌∙◌, arith}
use Rattle.std.proofs.lemmas.List.{get_or_read}
use Rattle.vital_ll.specs.Marks.{has, marked, begins}
use Rattle.vital_ll.specs.Masks.{token_at}
use Rattle.vital_ll.proofs.Entries.{choice_mask_is}
use Rattle.vital_ll.proofs.Listings.{bounds_of}
use Rattle.vital_ll.proofs.blocks.Analysis.choice_mask.Goals as goal

pub returns : goal.returns
returns c =
    let a = c.args.self.now in
    let b = c.args.block.now in
    let inside = (bounds_of a.rules.now c.args.rule c.args.alternative c.requires.there).0 in
    let after = get_or_read b.follow.items c.args.rule c.index-after.result.now (omega (arith, inside, c.requires.block.follow_len)) (c.index-after.ensures ∙ ap (λ r. get_or b.follow.items r c.index-after.result.now) c.from.ensures) 0 in
    choice_mask_is a.rules.now c.args.rule c.args.alternative a.nullable.now b.base b c.symbols-symbols.result.now c.can_begin.result c.requires.well_formed c.requires.block c.symbols-symbols.ensures
    (λ i low. c.can_begin.ensures i low
    ∙ ap (λ x. begins (marked a.nullable.now i) (marked c.deref.result.now i) (token_at (b.base + i)) (has x i) c.symbols-symbols.result.now) after
    ∙ ap (λ l. begins (marked a.nullable.now i) (marked l i) (token_at (b.base + i)) (marked b.follow.items i c.args.rule) c.symbols-symbols.result.now) c.deref.ensures.value)
