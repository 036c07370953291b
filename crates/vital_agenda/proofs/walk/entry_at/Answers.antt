use Rattle.std.proofs.Common.{◌∙◌}
use Rattle.vital_agenda.proofs.Chains.{entry_in_chain}
use Rattle.vital_agenda.proofs.walk.entry_at.Goals as goal

pub returns : goal.returns
returns c = c.copied.ensures ∙ c.get.ensures.value ∙ entry_in_chain c.args.time c.args.driver c.args.queue.now.entries c.requires
