use Rattle.std.proofs.Common.{◌∙◌, sym}
use Rattle.vital_agenda.specs.Queues.{chain_of}
use Rattle.vital_agenda.proofs.Chains.{chain_falls}
use Rattle.vital_agenda.proofs.Walks.{walk_starts, walk_goes_on, kept_at_halt, rest_at_halt}
use Rattle.vital_agenda.proofs.walk.walk.Goals as goal

pub loop-entry-init : goal.loop-entry-init
loop-entry-init c = walk_starts c.args.stay c.args.last (chain_of c.args.driver c.args.queue.now.entries) c.requires.chain c.requires.there

pub entry_staying-requires : goal.entry_staying-requires
entry_staying-requires c = chain_falls (chain_of c.args.driver c.args.queue.now.entries) c.requires.chain

pub loop-entry-smaller : goal.loop-entry-smaller
loop-entry-smaller c =
    (walk_goes_on c.args.stay c.args.last (chain_of c.args.driver c.args.queue.now.entries) c.loop-entry.kept c.loop-entry.rest c.in-Some.entry c.requires.chain c.requires.there c.loop-entry.invariant
    (sym c.entry_staying.ensures ∙ c.in-Some.is)).less

pub loop-entry-preserved : goal.loop-entry-preserved
loop-entry-preserved c =
    (walk_goes_on c.args.stay c.args.last (chain_of c.args.driver c.args.queue.now.entries) c.loop-entry.kept c.loop-entry.rest c.in-Some.entry c.requires.chain c.requires.there c.loop-entry.invariant
    (sym c.entry_staying.ensures ∙ c.in-Some.is)).next

pub returns-clause-kept : goal.returns-clause-kept
returns-clause-kept c =
    kept_at_halt c.args.stay c.args.last (chain_of c.args.driver c.args.queue.now.entries) c.loop-entry.kept c.loop-entry.rest c.requires.chain c.requires.there c.loop-entry.invariant
    (sym c.entry_staying.ensures ∙ c.in_default.is)

pub returns-clause-rest : goal.returns-clause-rest
returns-clause-rest c =
    rest_at_halt c.args.stay c.args.last (chain_of c.args.driver c.args.queue.now.entries) c.loop-entry.kept c.loop-entry.rest c.requires.chain c.requires.there c.loop-entry.invariant
    (sym c.entry_staying.ensures ∙ c.in_default.is)
