-- Signals that get their values one after the other.
use Rattle.std.specs.Prelude.{ℕ, List, [], ◌∷◌, ◌++◌, fold, slice_index_or, slice_set, if◌then◌else◌}
use Rattle.vital_agenda.specs.Driver.{same_level}
use Rattle.vital_logic.specs.declared.level.Level.{Level}
use Rattle.vital_logic.specs.declared.level.Level.TheVariants.{U}
use Rattle.vital_signals.specs.Events.{quiet_signal, with_value}
use Rattle.vital_signals.specs.declared.signal.Signal.{Signal}

-- All signals, and the numbers of those that had an event so far.
pub record Round : Type 0 where
  pub signals : List Signal
  pub events : List ℕ

-- The signal of a number gets its value of these at a time. There are as many values as signals, and U and its signal stand for none that
-- is missing.
abbrev pub with_signal : ℕ → List Level → Round → ℕ → Round
with_signal time given round number =
    let signal = slice_index_or round.signals number (quiet_signal U) in
    let value = slice_index_or given number U in
    record {
      signals = slice_set round.signals number (with_value time (signal, value));
      events = if same_level signal.value value then round.events else round.events ++ number ∷ [];
    }

-- The signals of these numbers get their values.
abbrev pub with_signals : ℕ → List Level → List ℕ → Round → Round
with_signals time given numbers round = fold (with_signal time given) round numbers
