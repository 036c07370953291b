use Rattle.std.proofs.Common.{ap, subst, sym, ◌∙◌}
use Rattle.vital_agenda.specs.Driver.{next_time}
use Rattle.vital_agenda.specs.Agendas.{Content, IsAgenda}
use Rattle.vital_agenda.proofs.Contents.{all_rise}
use Rattle.vital_agenda.proofs.FirstDue.{next_is_first, next_is_none}
use Rattle.vital_agenda.proofs.queue_agenda.QueueAgendaAgenda.next_time.Goals as goal

pub returns-in-Some-clause-next : goal.returns-in-Some-clause-next
returns-in-Some-clause-next c =
    sym (ap (λ (s : Content). next_time s.drivers) (sym c.self.view_is)
    ∙ next_is_first c.self.inside.now ((c.in-Some.time, c.in-Some.field-0-0-1), c.in-Some.field-0-1) c.self.inside.queue.entries c.self.inside.current.items c.self.inside.last.items
    c.self.invariant c.in-Some.ensures)

pub returns-in-Some-clause-valid : goal.returns-in-Some-clause-valid
returns-in-Some-clause-valid c =
    subst IsAgenda c.self.view_is (all_rise c.self.inside.now 0 c.self.inside.current.items c.self.inside.queue.entries c.self.invariant.not_past)

pub returns-in-None-clause-next : goal.returns-in-None-clause-next
returns-in-None-clause-next c =
    sym (ap (λ (s : Content). next_time s.drivers) (sym c.self.view_is) ∙ next_is_none c.self.inside.current.items c.self.inside.queue.entries c.in-None.ensures)

pub returns-in-None-clause-valid : goal.returns-in-None-clause-valid
returns-in-None-clause-valid c =
    subst IsAgenda c.self.view_is (all_rise c.self.inside.now 0 c.self.inside.current.items c.self.inside.queue.entries c.self.invariant.not_past)
