-- What a run of a design simulates: its signals and its instances of cells, with delays for these, and stimuli for the bits of its top's
-- ports.
use Rattle.std.specs.Prelude.{ℕ, ◌+◌, ◌==◌, nat_lt, Bool, true, List, [], ◌∷◌, map, filter, length, slice_get, unwrap_or, Option}
use Rattle.std.specs.List.{enumerate_from, filter_map, list_any, sum_by}
use Rattle.std.specs.Option.{option_and_then, option_map}
use Rattle.vital_base.specs.declared.ports.PortBit.{PortBit}
use Rattle.vital_cell.specs.Execution.{all_executed, drivers_of}
use Rattle.vital_logic.specs.Levels.{level_of}
use Rattle.vital_logic.specs.declared.level.Level.{Level}
use Rattle.vital_logic.specs.declared.level.Level.TheVariants.{U}
use Rattle.vital_netlist.specs.Designs.{Design, DesignInstance, DesignSignal}
use Rattle.vital_netlist.specs.Trees.{name_of, path_of}
use Rattle.vital_netlist.specs.declared.design_lists.DesignDriver.{DesignDriver}
use Rattle.vital_stim.specs.declared.stimuli.StimLine.{StimLine}
use Rattle.vital_timing.specs.declared.delay.Delay.{Delay}
use Rattle.vital_typed_cells.specs.declared.typed_cell.TypedCell.{TypedCell}
use Rattle.vital_kernel.specs.Networks.{NetCell, Network}
use Rattle.vital_kernel.specs.declared.network.NetSignal.{NetSignal}
use Rattle.vital_base.specs.declared.watch.Watch.{Watch}
use Rattle.vital_base.specs.declared.watch.Watch.TheVariants.{All, Ports}

-- ---- signals

-- The bits of the top's ports are the first signals.
abbrev pub is_watched : Watch → List PortBit → ℕ → Bool
is_watched Ports ports number = nat_lt number (length ports)
is_watched All ports number = true

abbrev pub signal_of : Design → Watch → (ℕ × DesignSignal) → NetSignal
signal_of d watch (number, signal) =
    record { name = name_of d signal; is_watched = is_watched watch d.ports number; initial = signal.initial }

abbrev pub signals_of : Design → Watch → List NetSignal
signals_of d watch = map (signal_of d watch) (enumerate_from 0 d.signals)

-- ---- drivers of stimuli

-- Does some line of the stimuli name the port bit of a number?
abbrev pub is_stimulated : List StimLine → ℕ → Bool
is_stimulated lines port = list_any (λ line. line.port == port) lines

-- The level that a port has at first: its default, or U.
abbrev pub initial_level : PortBit → Level
initial_level port = unwrap_or (level_of port.initial) U

-- The driver of a port bit for stimuli begins with that.
abbrev pub stimulus_driver : (ℕ × PortBit) → DesignDriver
stimulus_driver (number, port) = record { signal = number; initial = initial_level port }

-- There is one for each port bit that some line names, in the order of the port bits.
abbrev pub stimulus_drivers : List PortBit → List StimLine → List DesignDriver
stimulus_drivers ports lines = map stimulus_driver (filter (λ p. is_stimulated lines p.0) (enumerate_from 0 ports))

-- ---- instances of cells

-- An instance with its number among all instances and its cell, if it is one of a cell.
abbrev pub placed_cell : Design → (ℕ × DesignInstance) → Option (ℕ × TypedCell)
placed_cell d (number, instance) = option_map (λ tree. (number, tree)) (option_and_then (slice_get d.cells) instance.cell)

abbrev pub placed_cells : Design → List (ℕ × TypedCell)
placed_cells d = filter_map (placed_cell d) (enumerate_from 0 d.instances)

-- How many drivers an instance of a cell has: one for each wire delay and each path delay.
abbrev pub driver_count : TypedCell → ℕ
driver_count tree = sum_by drivers_of (all_executed tree)

-- Instances of cells with their delays and their wiring. The drivers of each come behind those of the ones before it.
abbrev pub cells_from : Design → ℕ → List (ℕ × TypedCell) → List (List Delay) → List (List ℕ) → List NetCell
cells_from d first ((number, tree) ∷ placed) (delays ∷ values) (wires ∷ wiring) =
    record { path = path_of d number; tree = tree; delays = delays; wires = wires; first_driver = first }
    ∷ cells_from d (first + driver_count tree) placed values wiring
cells_from d first placed values wiring = []

-- ---- networks

-- The delays are those of the timing generics, for each instance of a cell in order.
abbrev pub network : Design → List (List Delay) → List StimLine → Watch → Network
network d values lines watch =
    let stimulated = stimulus_drivers d.ports lines in
    record {
      signals = signals_of d watch;
      stimulus_drivers = stimulated;
      cell_drivers = d.drivers;
      cells = cells_from d (length stimulated) (placed_cells d) values d.wiring;
    }
