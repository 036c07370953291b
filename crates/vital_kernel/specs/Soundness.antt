-- When a network is sound: what a simulation of it stands on.
use Rattle.std.specs.Prelude.{◌≡◌, ◌+◌, ◌^◌, ◌<◌, ◌≤◌, All, length}
use Rattle.vital_typed_cells.specs.Fits.{FitsCell}
use Rattle.vital_kernel.specs.DesignNetworks.{driver_count}
use Rattle.vital_kernel.specs.Networks.{NetCell, Network, all_drivers}
use Rattle.vital_typed_cells.specs.Sound.{IsSound, bit_count}

-- An instance of a cell: its tree is sound, its delays fit it, there is a signal for each of its bits, and its drivers are there, behind those
-- of the stimuli.
pub record IsSoundCell (n : Network) (c : NetCell) : Type 0 where
  pub tree : IsSound c.tree
  pub delays : FitsCell c.tree c.delays
  pub wired : length c.wires ≡ bit_count c.tree
  pub signals_there : All (λ signal. signal < length n.signals) c.wires
  pub drivers_there : c.first_driver + driver_count c.tree ≤ length (all_drivers n)
  pub behind_stimuli : length n.stimulus_drivers ≤ c.first_driver

-- There are fewer than 2^31 signals, and as few drivers; the signal of each driver is there; and the instances of cells are sound.
pub record IsSoundNetwork (n : Network) : Type 0 where
  pub few_signals : length n.signals < 2 ^ 31
  pub few_drivers : length (all_drivers n) < 2 ^ 31
  pub signals_there : All (λ driver. driver.signal < length n.signals) (all_drivers n)
  pub cells_sound : All (IsSoundCell n) n.cells
