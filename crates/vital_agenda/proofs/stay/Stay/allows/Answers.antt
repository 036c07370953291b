use Rattle.std.proofs.Common.{ap, ◌∙◌}
use Rattle.vital_logic.specs.declared.level.Level.TheVariants.{X}
use Rattle.vital_agenda.specs.declared.stay.Stay.{Stay}
use Rattle.vital_agenda.specs.Queues.{stays}
use Rattle.vital_agenda.proofs.stay.Stay.allows.Goals as goal

pub returns-in-After-clause-some : goal.returns-in-After-clause-some
returns-in-After-clause-some c = λ allowed. (X, ap (λ (s : Stay). stays s (record { time = c.args.time; value = X })) c.in-After.is ∙ allowed)

pub returns-in-From-clause-some : goal.returns-in-From-clause-some
returns-in-From-clause-some c = λ allowed. (X, ap (λ (s : Stay). stays s (record { time = c.args.time; value = X })) c.in-From.is ∙ allowed)
