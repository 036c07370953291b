use Rattle.std.proofs.Common.{subst}
use Rattle.vital_agenda.specs.Agendas.{IsAgenda}
use Rattle.vital_agenda.proofs.Contents.{all_rise}
use Rattle.vital_agenda.proofs.queue_agenda.QueueAgendaAgenda.now.Goals as goal

pub returns-clause-valid : goal.returns-clause-valid
returns-clause-valid c =
    subst IsAgenda c.self.view_is (all_rise c.self.inside.now 0 c.self.inside.current.items c.self.inside.queue.entries c.self.invariant.not_past)
