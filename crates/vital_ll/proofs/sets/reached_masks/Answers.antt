use Rattle.std.proofs.Common.{◌≡◌, ◌-◌, ◌^◌, replicate, set, length, rules, ap, ◌∙◌}
use Rattle.std.proofs.lemmas.List.{length-replicate, length-set}
use Rattle.vital_ll.proofs.Made.{reached_made}
use Rattle.vital_ll.proofs.sets.reached_masks.Goals as goal

pub returns : goal.returns
returns c =
    let is : c.in_ok-first.first.items ≡ replicate (length c.args.rules.now) 0 = search rules in
    reached_made c.args.rules.now c.args.steps.now c.args.places.now _ c.saturated.result.items c.requires.well_formed c.requires.steps c.requires.places (ap (λ l. set l 0 (2 ^ 128 - 1)) is)
    (length-set c.in_ok-first.first.items 0 (2 ^ 128 - 1) ∙ ap length is ∙ length-replicate (length c.args.rules.now) 0) c.saturated.ensures
