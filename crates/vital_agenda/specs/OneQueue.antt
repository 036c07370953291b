-- One queue for the transactions of all drivers.
use Rattle.std.specs.Prelude.{◌≡◌, ℕ, suc, List, [], ◌∷◌, Option, None, length, slice_index_or}
use Rattle.vital_logic.specs.declared.level.Level.{Level}
use Rattle.vital_agenda.specs.Driver.{Driver, RisesFrom}
use Rattle.vital_agenda.specs.Queues.{Keyed, IsChain, chain_of, latest, pending_of}

-- The time of the last entry of a driver, or none, as these tell it; a driver that is not there has none.
abbrev pub last_of : ℕ → List (Option ℕ) → Option ℕ
last_of driver lasts = slice_index_or lasts driver None

-- The drivers with these values, of which the first has a number, and the transactions of a queue.
abbrev pub drivers_from : ℕ → List Level → List Keyed → List Driver
drivers_from number [] entries = []
drivers_from number (current ∷ currents) entries =
    record { current = current; pending = pending_of number entries } ∷ drivers_from (suc number) currents entries

-- Each driver has the time of its last entry, or none. From there its chain falls strictly in time, each entry having the time
-- of its driver's preceding entry, or none. The chains together are exactly the keys: all entries of a driver stand in its
-- chain, and a driver that is not there has none. No entry comes before the present.
pub record IsOneQueue (now : ℕ) (entries : List Keyed) (currents : List Level) (lasts : List (Option ℕ)) : Type 0 where
  pub one_each : length lasts ≡ length currents
  pub starts : (driver : ℕ) → last_of driver lasts ≡ latest (chain_of driver entries)
  pub chained : (driver : ℕ) → IsChain (chain_of driver entries)
  pub not_past : (driver : ℕ) → RisesFrom now (pending_of driver entries)
