use Rattle.vital_agenda.proofs.FirstDue.{none_less}
use Rattle.vital_agenda.proofs.walk.first.Goals as goal

pub returns-in-Some : goal.returns-in-Some
returns-in-Some c = (c.in-Some.ensures.first, none_less c.in-Some.key.now c.args.queue.now.entries c.in-Some.ensures.all_from)
