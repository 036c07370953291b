use Rattle.std.proofs.Common.{◌≡◌, replicate, length, rules, ap, ◌∙◌}
use Rattle.std.proofs.lemmas.List.{length-replicate}
use Rattle.vital_ll.proofs.Made.{first_made}
use Rattle.vital_ll.proofs.sets.first_masks.Goals as goal

pub saturated-requires-clause-valid : goal.saturated-requires-clause-valid
saturated-requires-clause-valid c = (c.requires.well_formed, c.requires.steps, c.requires.nullable.len, λ i low. (c.requires.nullable.each i low).sound)

pub returns : goal.returns
returns c =
    let is : c.in_ok-none.none.items ≡ replicate (length c.args.rules.now) 0 = search rules in
    first_made c.args.rules.now c.args.steps.now c.args.nullable.now c.args.base c.in_ok-none.none.items c.saturated.result.items c.requires.steps is
    (ap length is ∙ length-replicate (length c.args.rules.now) 0) c.saturated.ensures
