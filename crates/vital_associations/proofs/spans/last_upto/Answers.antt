use Rattle.std.proofs.Common.{sym, ◌∙◌}
use Rattle.vital_associations.proofs.spans.last_upto.Goals as goal

pub returns-in-None : goal.returns-in-None
returns-in-None c = sym (c.range.ensures.between tt) ∙ c.in-None.ensures.steps.0

pub returns-in-Some : goal.returns-in-Some
returns-in-Some c = (_, sym (c.range.ensures.between tt) ∙ c.in-Some.ensures.steps)
