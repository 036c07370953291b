use Rattle.vital_agenda.proofs.Chains.{chain_of_put, others_of_put}
use Rattle.std.proofs.Common.{◌∙◌, ap}
use Rattle.vital_agenda.specs.Queues.{chain_of}
use Rattle.vital_agenda.proofs.unlink.put.Goals as goal

pub returns-clause-ok : goal.returns-clause-ok
returns-clause-ok c =
    ap (chain_of c.args.driver) c.in_ok-insert.ensures.entries
    ∙ chain_of_put c.args.time c.args.driver c.args.entry c.args.queue.now.entries c.insert.ensures.was_ordered

pub returns-clause-others : goal.returns-clause-others
returns-clause-others c =
    λ other apart. ap (chain_of other) c.in_ok-insert.ensures.entries ∙ others_of_put c.args.time c.args.driver other c.args.entry c.args.queue.now.entries apart
