-- The states of a run.
use Rattle.std.specs.Prelude.{ℕ, List, map}
use Rattle.vital_agenda.specs.Driver.{Driver}
use Rattle.vital_cell.specs.Variables.{Slot}
use Rattle.vital_logic.specs.declared.level.Level.{Level}
use Rattle.vital_kernel.specs.Networks.{Network, all_drivers}
use Rattle.vital_signals.specs.Values.{values as given}
use Rattle.vital_signals.specs.declared.signal.Signal.{Signal}

-- The present time, in femtoseconds, and delta number; the drivers; the signals; and for each instance of a cell, what the variables of each
-- of its processes hold.
pub record State : Type 0 where
  pub now : ℕ
  pub delta : ℕ
  pub drivers : List Driver
  pub signals : List Signal
  pub variables : List (List (List Slot))

-- ---- values of signals (IEEE 1076-1993, 12.6.2)

-- The values of all signals, in order, where these are the drivers.
abbrev pub values : Network → List Driver → List Level
values n drivers = given (map (λ s. s.initial) n.signals) (map (λ d. d.signal) (all_drivers n)) drivers
