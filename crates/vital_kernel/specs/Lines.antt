-- The lines of a run, as they are printed.
use Rattle.std.specs.Prelude.{ℕ, List, [], ◌∷◌, ◌++◌, slice_get, unwrap_or, if◌then◌else◌}
use Rattle.std.specs.List.{flat_map, zip}
use Rattle.std.specs.Option.{option_map, option_map_or}
use Rattle.vital_kernel.specs.Cycles.{Event, Glitch, Happening, Violation, first_drivers}
use Rattle.vital_kernel.specs.States.{values}
use Rattle.vital_logic.specs.declared.level.Level.{Level}
use Rattle.vital_kernel.specs.Networks.{Network}
use Rattle.vital_kernel.specs.declared.network.NetSignal.{NetSignal}
use Rattle.vital_report.specs.Lines.{Said, event, glitch, init, violation}
use Rattle.vital_typed_cells.specs.Bits.{names_of}

-- ---- what is told of a network: instances have their paths, and bits their names in their cell

abbrev pub path_in : Network → ℕ → List ℕ
path_in n instance = option_map_or (λ cell. cell.path) (slice_get n.cells instance) []

abbrev pub bit_in : Network → ℕ → ℕ → List ℕ
bit_in n instance bit =
    option_map_or (λ cell. unwrap_or (slice_get (names_of cell.tree.ports cell.tree.signals) bit) []) (slice_get n.cells instance) []

-- The value of a signal before the initial run, where it is watched.
abbrev pub init_line : (NetSignal × Level) → List Said
init_line (signal, value) = if signal.is_watched then init signal.name value ∷ [] else []

abbrev pub init_lines : Network → List Said
init_lines n = flat_map init_line (zip n.signals (values n (first_drivers n)))

-- The event of a signal, where it is watched.
abbrev pub event_line : ℕ → ℕ → Level → NetSignal → List Said
event_line time delta value signal = if signal.is_watched then event time delta signal.name value ∷ [] else []

abbrev pub lines_of : Network → Happening → List Said
lines_of n (Event time delta signal value) = option_map_or (event_line time delta value) (slice_get n.signals signal) []
lines_of n (Glitch time delta instance port) = glitch time delta (path_in n instance) (bit_in n instance port) ∷ []
lines_of n (Violation time delta instance test reference violated) =
    violation time delta (path_in n instance) (bit_in n instance test) (option_map (bit_in n instance) reference) violated ∷ []

-- The lines of a run in which this happened: the first values, and then what happened, in order.
abbrev pub run_lines : Network → List Happening → List Said
run_lines n happened = init_lines n ++ flat_map (lines_of n) happened
