use Rattle.std.proofs.Common.{◌≡◌, ◌≤◌, [], length, take}
use Rattle.vital_signals.specs.Rounds.{Round, with_signals}
use Rattle.vital_signals.specs.Values.{values}
use Rattle.vital_signals.proofs.signals.renew.Given as goal

abbrev pub invariant-loop-k : goal.invariant-loop-k
invariant-loop-k g l = record {
  so_far : let r : Round = record { signals = l.signals; events = l.events.listed } in
      r ≡ with_signals (g.A.Agenda.content l.agenda).now (values l.sources.defaults l.sources.signals_of (g.A.Agenda.content l.agenda).drivers)
      (take l.k l.touched.listed) (record { signals = l.initial.signals; events = [] });
  fewer : length l.events.listed ≤ l.k;
  room : l.events.room ≡ l.initial.events.room;
}
