-- The initial run and the simulation cycle (IEEE 1076-1993, 12.6.4).
use Rattle.std.specs.Prelude.{ℕ, ◌+◌, ◌==◌, Bool, List, [], ◌∷◌, ◌++◌, map, filter, Option}
use Rattle.std.specs.List.{flat_map, fold, list_any, position_or_len}
use Rattle.vital_agenda.specs.Agendas.{changed, idle_driver}
use Rattle.vital_agenda.specs.Driver.{Driver, advance, send}
use Rattle.vital_base.specs.declared.kind.Kind.TheVariants.{Transport}
use Rattle.vital_logic.specs.declared.level.Level.{Level}
use Rattle.vital_machine.specs.declared.effect.Effect.{Effect}
use Rattle.vital_machine.specs.declared.effect.Effect.TheVariants as effect
use Rattle.vital_kernel.specs.Processes.{done_by, first_variables, with_slots}
use Rattle.vital_signals.specs.Events.{new_values as changed_values, quiet_signal, with_values}
use Rattle.vital_stim.specs.declared.stimuli.StimLine.{StimLine}
use Rattle.vital_timing_checks.specs.declared.violated.Violated.{Violated}
use Rattle.vital_kernel.specs.Networks.{NetProcess, Network, all_drivers, processes, sensitivity}
use Rattle.vital_kernel.specs.States.{State, values}

-- What is told of a run: a signal gets a new value, or an instance of a cell has a message of a glitch at a port or of a violated check. The
-- instance has its number among those of cells, and bits have their numbers in their cell.
pub data Happening : Type 0 where
  Event : (time delta signal : ℕ) (value : Level) → Happening
  Glitch : (time delta instance port : ℕ) → Happening
  Violation : (time delta instance test : ℕ) (reference : Option ℕ) (violated : Violated) → Happening

-- A part of a run: the state after it, and what happened in it, in order.
pub record Part : Type 0 where
  pub state : State
  pub happened : List Happening

-- ---- processes

-- The drivers after an effect of a process at a time, where its instance has this first driver: an assignment is one to its driver.
abbrev pub sent : ℕ → ℕ → List Driver → Effect → List Driver
sent now first drivers (effect.Assign driver s) = changed (first + driver) (send now s.kind s.value s.delay) drivers
sent now first drivers (effect.Glitch port) = drivers
sent now first drivers (effect.Violation test reference violated) = drivers

-- The message of an effect of a process of the instance of a number, if it is one.
abbrev pub said : ℕ → ℕ → ℕ → Effect → List Happening
said now delta instance (effect.Assign driver s) = []
said now delta instance (effect.Glitch port) = Glitch now delta instance port ∷ []
said now delta instance (effect.Violation test reference violated) = Violation now delta instance test reference violated ∷ []

-- A process runs: it is executed, its effects are made in order, and its variables hold what it left in them.
abbrev pub activated : Part → NetProcess → Part
activated part p =
    let s = part.state in
    let done = done_by s.now s.signals s.variables p in
    record {
      state = record s {
        drivers = fold (sent s.now p.cell.first_driver) s.drivers done.effects;
        variables = with_slots p done.slots s.variables;
      };
      happened = part.happened ++ flat_map (said s.now s.delta p.instance) done.effects;
    }

-- Some processes run, one after the other.
abbrev pub all_activated : List NetProcess → Part → Part
all_activated ps part = fold activated part ps

-- ---- the initial run

abbrev pub first_drivers : Network → List Driver
first_drivers n = map (λ d. idle_driver d.initial) (all_drivers n)

-- Before it each driver has its first value, each signal the value that these give, and each variable its first value.
abbrev pub first_state : Network → State
first_state n = record {
  now = 0;
  delta = 0;
  drivers = first_drivers n;
  signals = map quiet_signal (values n (first_drivers n));
  variables = map first_variables n.cells;
}

-- The number of the driver for the stimuli of a port bit.
abbrev pub driver_of_port : Network → ℕ → ℕ
driver_of_port n port = position_or_len (λ d. d.signal == port) n.stimulus_drivers

-- A line of the stimuli is one transport assignment of its value after its time.
abbrev pub stimulated : Network → List Driver → StimLine → List Driver
stimulated n drivers line = changed (driver_of_port n line.port) (send 0 Transport line.value line.time) drivers

-- Process 0 is the stimuli, which assign line by line.
abbrev pub after_stimuli : Network → List StimLine → Part
after_stimuli n lines =
    let s = first_state n in
    record { state = record s { drivers = fold (stimulated n) s.drivers lines }; happened = [] }

-- The initial run is delta 0 of time 0: every process runs once, in number order.
abbrev pub initial_run : Network → List StimLine → Part
initial_run n lines = all_activated (processes n) (after_stimuli n lines)

-- ---- a cycle

-- The values of the signals when the transactions that are due at a time have become the values of their drivers.
abbrev pub values_at : Network → ℕ → State → List Level
values_at n time s = values n (map (advance time) s.drivers)

-- The signals that have an event in the cycle at a time, in signal order, with their new values.
abbrev pub new_values : Network → ℕ → State → List (ℕ × Level)
new_values n time s = changed_values s.signals (values_at n time s)

abbrev pub event_at : ℕ → ℕ → (ℕ × Level) → Happening
event_at time delta (signal, value) = Event time delta signal value

-- The first half of the cycle at a time: each transaction that is due becomes the value of its driver and leaves the list, and the signals
-- get their values anew.
abbrev pub updated : Network → ℕ → ℕ → State → Part
updated n time delta s = record {
  state = record s {
    now = time;
    delta = delta;
    drivers = map (advance time) s.drivers;
    signals = with_values time s.signals (values_at n time s);
  };
  happened = map (event_at time delta) (new_values n time s);
}

-- Is a process sensitive to one of these signals?
abbrev pub is_sensitive_to : List (ℕ × Level) → NetProcess → Bool
is_sensitive_to found p = list_any (λ number. list_any (λ signal. signal.0 == number) found) (sensitivity p)

-- The cycle at a time, with a delta number: that, and then each process that is sensitive to a signal that has an event runs, in number
-- order.
abbrev pub cycle_at : Network → ℕ → ℕ → State → Part
cycle_at n time delta s = all_activated (filter (is_sensitive_to (new_values n time s)) (processes n)) (updated n time delta s)
