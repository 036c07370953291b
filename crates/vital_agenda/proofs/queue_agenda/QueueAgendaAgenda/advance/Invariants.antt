use Rattle.std.proofs.Common.{◌≡◌, ◌++◌, length, map}
use Rattle.vital_agenda.specs.Driver.{advance}
use Rattle.vital_agenda.specs.Agendas.{due_at}
use Rattle.vital_agenda.proofs.queue_agenda.QueueAgendaAgenda.advance.Given as goal

abbrev pub invariant-loop-driver : goal.invariant-loop-driver
invariant-loop-driver l = record {
  now : l.self.now ≡ l.initial.self.now;
  listed : due_at l.initial.self.now l.initial.self.drivers ≡ l.due.listed ++ due_at l.self.now l.self.drivers;
  drivers : map (advance l.initial.self.now) l.self.drivers ≡ map (advance l.initial.self.now) l.initial.self.drivers;
  room : l.due.room ≡ l.initial.due.room;
}

abbrev pub decreases-loop-driver : goal.decreases-loop-driver
decreases-loop-driver l = length (due_at l.self.now l.self.drivers)
