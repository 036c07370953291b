use Rattle.std.proofs.Common.{[], ◌∷◌, ℕ, List, Option, ap, subst, sym, ◌∙◌}
use Rattle.vital_agenda.specs.declared.stay.Stay.TheVariants.{After}
use Rattle.vital_agenda.specs.Queues.{Keyed, Falls, chain_of, earliest, first_staying}
use Rattle.vital_agenda.proofs.Chains.{chain_falls, front_falls}
use Rattle.vital_agenda.proofs.Parts.{back_from_last}
use Rattle.vital_agenda.proofs.Unlinks.{Kept, first_leaves, popped}
use Rattle.vital_agenda.proofs.unlink.unlink_first.Goals as goal

pub make_first-requires : goal.make_first-requires
make_first-requires c =
    let p = popped c.args.time c.args.driver c.args.queue.now.entries c.pop_first.new.self.entries c.pop_first.result c.requires.first c.pop_first.ensures.variant c.pop_first.ensures.removal in
    front_falls (chain_of c.args.driver c.pop_first.new.self.entries) (p.entry ∷ []) (subst Falls p.parts (chain_falls (chain_of c.args.driver c.args.queue.now.entries) c.requires.chain))

kept_here : (c : goal.After-and) → Kept (After c.args.time) c.and.result (chain_of c.args.driver c.args.queue.now.entries) (chain_of c.args.driver c.make_first.new.queue.entries)
kept_here c =
    let old = chain_of c.args.driver c.args.queue.now.entries in
    let new = chain_of c.args.driver c.make_first.new.queue.entries in
    let p = popped c.args.time c.args.driver c.args.queue.now.entries c.pop_first.new.self.entries c.pop_first.result c.requires.first c.pop_first.ensures.variant c.pop_first.ensures.removal in
    let kept = c.walk-kept.ensures.kept ∙ ap (λ (xs : List Keyed). earliest (first_staying (After c.args.time) xs)) (back_from_last c.args.last old c.requires.chain c.requires.last) in
    subst (λ (t : Option ℕ). Kept (After c.args.time) t old new) (sym c.and.ensures)
    (first_leaves c.args.time c.args.last c.walk-kept.result.kept p.entry old (chain_of c.args.driver c.pop_first.new.self.entries) new p.at_time c.requires.chain c.requires.last p.parts kept
    c.make_first.ensures.chain)

pub returns-clause-chain : goal.returns-clause-chain
returns-clause-chain c = (kept_here c).chain

pub returns-clause-last : goal.returns-clause-last
returns-clause-last c = (kept_here c).starts

pub returns-clause-stays : goal.returns-clause-stays
returns-clause-stays c = (kept_here c).stays
