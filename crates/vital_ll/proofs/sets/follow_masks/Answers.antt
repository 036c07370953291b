use Rattle.std.proofs.Common.{◌≡◌, replicate, set, length, rules, ap, ◌∙◌}
use Rattle.std.proofs.lemmas.List.{length-replicate, length-set}
use Rattle.vital_ll.proofs.Bits.{end_bit, bit_end}
use Rattle.vital_ll.proofs.Made.{followed_made}
use Rattle.vital_ll.proofs.sets.follow_masks.Goals as goal

pub returns : goal.returns
returns c =
    let p = c.args.pass.now in
    let is : c.in_ok-start.start.items ≡ replicate (length p.rules.now) 0 = search rules in
    followed_made p.rules.now p.steps.now p.places.now p.base p.nullable.now p.first.now p.reached.now c.from.result _ c.saturated.result.items c.requires.valid c.requires.steps
    (λ i h. end_bit p.base i c.from.result c.from.ensures h) (λ i h. bit_end p.base i c.from.result c.from.ensures h) (ap (λ l. set l 0 c.from.result) is)
    (length-set c.in_ok-start.start.items 0 c.from.result ∙ ap length is ∙ length-replicate (length p.rules.now) 0) c.saturated.ensures
