use Rattle.std.proofs.Common.{◌≡◌, length}
use Rattle.vital_signals.specs.SignalStates.{AreCurrent}
use Rattle.vital_value_rows.proofs.agendas.signals_after.Given as goal

abbrev pub invariant-loop-step : goal.invariant-loop-step
invariant-loop-step l = record {
  current : AreCurrent l.signals l.agenda.drivers;
  all : length l.signals.signals_of ≡ 4;
  room : l.due.room ≡ 4;
}
