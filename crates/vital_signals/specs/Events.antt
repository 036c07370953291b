-- Signals that get values, and their events (IEEE 1076-1993, 12.6.2).
use Rattle.std.specs.Prelude.{ℕ, List, map, Option, Some, None, if◌then◌else◌}
use Rattle.std.specs.List.{enumerate_from, filter_map, zip}
use Rattle.vital_agenda.specs.Driver.{same_level}
use Rattle.vital_logic.specs.declared.level.Level.{Level}
use Rattle.vital_signals.specs.declared.signal.Signal.{Signal}

-- A signal before its first event.
abbrev pub quiet_signal : Level → Signal
quiet_signal value = record { value = value; last_value = value; last_event = None }

-- A signal that gets a value at a time: where that is another than before, it is an event.
abbrev pub with_value : ℕ → (Signal × Level) → Signal
with_value time (signal, value) =
    if same_level signal.value value then signal
    else record { value = value; last_value = signal.value; last_event = Some time }

-- The signals after they get these values at a time, in order.
abbrev pub with_values : ℕ → List Signal → List Level → List Signal
with_values time signals given = map (with_value time) (zip signals given)

-- The number and the new value of a signal, if it is another than before: an event.
abbrev pub new_value : (ℕ × (Signal × Level)) → Option (ℕ × Level)
new_value (number, x) = if same_level x.0.value x.1 then None else Some (number, x.1)

-- The signals that have an event when they get these values, in signal order, with their new values.
abbrev pub new_values : List Signal → List Level → List (ℕ × Level)
new_values signals given = filter_map new_value (enumerate_from 0 (zip signals given))

-- The numbers of the signals that have an event, rising.
abbrev pub events_of : List Signal → List Level → List ℕ
events_of signals given = map (λ x. x.0) (new_values signals given)
