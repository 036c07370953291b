use Rattle.std.proofs.Common.{◌≡◌, map, take}
use Rattle.vital_signals.specs.Events.{quiet_signal}
use Rattle.vital_signals.specs.Values.{values}
use Rattle.vital_signals.proofs.signals.first_values.Given as goal

abbrev pub invariant-loop-number : goal.invariant-loop-number
invariant-loop-number g l =
    l.signals.items ≡ map quiet_signal (take l.number (values l.sources.defaults l.sources.signals_of (g.A.Agenda.content l.agenda).drivers))
