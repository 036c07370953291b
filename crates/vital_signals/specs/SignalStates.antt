-- The signals of a simulation before and after the cycle at a time (IEEE 1076-1993, 12.6.4).
use Rattle.std.specs.Prelude.{◌≡◌, ℕ, List, [], length, map}
use Rattle.vital_agenda.specs.Agendas.{Content, advanced, assigned, due_at, idle}
use Rattle.vital_agenda.specs.Driver.{Driver}
use Rattle.vital_base.specs.declared.kind.Kind.{Kind}
use Rattle.vital_logic.specs.declared.level.Level.{Level}
use Rattle.vital_signals.specs.Events.{events_of, quiet_signal, with_values}
use Rattle.vital_signals.specs.Values.{values}
use Rattle.vital_signals.specs.declared.signal.Signal.{Signal}

-- The values of all signals without drivers, the number of its signal for each driver, the signals, and the numbers of those that had an
-- event in the last cycle.
pub record SignalState : Type 0 where
  pub defaults : List Level
  pub signals_of : List ℕ
  pub signals : List Signal
  pub events : List ℕ

-- There is a number of a signal for each of these drivers, and the signals have the values that these drivers give them.
pub record AreCurrent (s : SignalState) (drivers : List Driver) : Type 0 where
  pub one_each : length drivers ≡ length s.signals_of
  pub given : map (λ signal. signal.value) s.signals ≡ values s.defaults s.signals_of drivers

-- A cycle has just begun: the agenda has advanced from a content to this one, these are the drivers that had a transaction then, and the
-- signals still have the values that the drivers gave them before.
pub record IsAdvanced (s : SignalState) (due : List ℕ) (content : Content) : Type 0 where
  pub before : Content
  pub current : AreCurrent s before.drivers
  pub after : content ≡ advanced content.now before
  pub due_then : due ≡ due_at content.now before.drivers

-- The signals before the initial run, where the drivers have these values.
abbrev pub first_signals : List Level → List ℕ → List Level → SignalState
first_signals defaults signals_of initial = record {
  defaults = defaults;
  signals_of = signals_of;
  signals = map quiet_signal (values defaults signals_of (idle initial).drivers);
  events = [];
}

-- After all signals got the values that the drivers give them at the present time.
abbrev pub updated : Content → SignalState → SignalState
updated content s =
    let given = values s.defaults s.signals_of content.drivers in
    record s { signals = with_values content.now s.signals given; events = events_of s.signals given }

-- An assignment to a driver leaves all signals the values that the drivers give them.
abbrev pub AssignmentsKeepValues : Type 0
AssignmentsKeepValues =
    (s : SignalState) (driver : ℕ) (kind : Kind) (value : Level) (delay : ℕ) (content : Content)
    → AreCurrent s content.drivers → AreCurrent s (assigned driver kind value delay content).drivers
