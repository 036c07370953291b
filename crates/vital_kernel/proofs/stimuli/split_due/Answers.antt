use Rattle.std.proofs.Common.{ap, ◌∙◌, take, drop}
use Rattle.vital_kernel.proofs.Handing.{due_is, later_is}
use Rattle.vital_kernel.proofs.stimuli.split_due.Goals as goal

pub returns-clause-due : goal.returns-clause-due
returns-clause-due c = c.split_at.ensures.front ∙ ap (λ n. take n c.args.lines.now) c.due_count.ensures.count ∙ due_is c.args.time c.args.lines.now

pub returns-clause-later : goal.returns-clause-later
returns-clause-later c = c.split_at.ensures.back ∙ ap (λ n. drop n c.args.lines.now) c.due_count.ensures.count ∙ later_is c.args.time c.args.lines.now
