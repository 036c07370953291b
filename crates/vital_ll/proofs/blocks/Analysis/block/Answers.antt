use Rattle.std.proofs.Common.{refl, sym, subst}
use Rattle.vital_ll.specs.Passes.{FirstMasks, FollowMasks}
use Rattle.vital_ll.proofs.Entries.{follows_from, block_made}
use Rattle.vital_ll.proofs.blocks.Analysis.block.Goals as goal

pub follow_masks-requires-clause-valid : goal.follow_masks-requires-clause-valid
follow_masks-requires-clause-valid c =
    let a = c.args.self.now in
    follows_from a.rules.now a.steps.now a.places.now c.args.base a.nullable.now c.deref.result.now a.reached.now c.requires
    (subst (FirstMasks a.rules.now a.nullable.now c.args.base) (sym c.deref.ensures.value) c.in_ok-first.ensures)

pub returns : goal.returns
returns c =
    let a = c.args.self.now in
    block_made a.rules.now a.steps.now a.places.now c.args.base a.nullable.now a.reached.now (record { base = c.args.base; first = c.in_ok-first.first; follow = c.in_ok-follow.follow }) c.requires refl
    c.in_ok-first.ensures (subst (λ l. FollowMasks a.rules.now a.nullable.now l a.reached.now c.args.base c.in_ok-follow.follow.items) c.deref.ensures.value c.in_ok-follow.ensures)
