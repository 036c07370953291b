use Rattle.std.proofs.Common.{◌≡◌, replicate, length, rules, ap, ◌∙◌}
use Rattle.std.proofs.lemmas.List.{length-replicate}
use Rattle.vital_ll.proofs.Made.{nullable_made}
use Rattle.vital_ll.proofs.sets.nullable_masks.Goals as goal

pub returns : goal.returns
returns c =
    let is : c.in_ok-none.none.items ≡ replicate (length c.args.rules.now) 0 = search rules in
    nullable_made c.args.rules.now c.args.steps.now c.in_ok-none.none.items c.saturated.result.items c.requires.steps is
    (ap length is ∙ length-replicate (length c.args.rules.now) 0) c.saturated.ensures
