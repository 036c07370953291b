use Rattle.std.proofs.Common.{◌≡◌, length}
use Rattle.vital_agenda.proofs.queue_agenda.tests.after.Given as goal

abbrev pub invariant-loop-step : goal.invariant-loop-step
invariant-loop-step l = record { drivers : length l.agenda.drivers ≡ 2; room : l.due.room ≡ 2 }
