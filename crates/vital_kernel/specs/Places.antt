-- Where the processes of a network are.
use Rattle.std.specs.Prelude.{◌≡◌, ℕ, List, Some, slice_get}
use Rattle.vital_cell.specs.Execution.{all_executed}
use Rattle.vital_kernel.specs.Networks.{NetCell, NetProcess}
use Rattle.vital_kernel.specs.declared.places.Place.{Place}

abbrev pub place_in : ℕ → ℕ → Place
place_in instance number = record { instance = instance; number = number }

abbrev pub place_of : NetProcess → Place
place_of p = place_in p.instance p.number

-- The instance of a process is one of these cells, and it executes what the process does.
pub record IsThere (cells : List NetCell) (p : NetProcess) : Type 0 where
  pub cell : slice_get cells p.instance ≡ Some p.cell
  pub executed : slice_get (all_executed p.cell.tree) p.number ≡ Some p.executed

-- A place is that of a process which is there.
abbrev pub IsPlace : List NetCell → Place → Type 0
IsPlace cells place = (p : NetProcess) × IsThere cells p × (place ≡ place_of p)
