-- What a run simulates: signals, the drivers of them, and the instances of cells whose processes assign to these.
use Rattle.std.specs.Prelude.{ℕ, List, [], ◌∷◌, ◌++◌, map, slice_get}
use Rattle.std.specs.List.{enumerate_from, filter_map, flat_map}
use Rattle.vital_cell.specs.Environments.{bit_of}
use Rattle.vital_cell.specs.Execution.{Executed, Process', Wire, all_executed}
use Rattle.vital_kernel.specs.declared.network.NetCell.{NetCell as NetCell'}
use Rattle.vital_kernel.specs.declared.network.NetSignal.{NetSignal}
use Rattle.vital_netlist.specs.declared.design_lists.DesignDriver.{DesignDriver}
use Rattle.vital_timing.specs.declared.delay.Delay.{Delay}
use Rattle.vital_typed_cells.specs.declared.typed_cell.TypedCell.{TypedCell}

-- An instance of a cell: the path that is printed for it, its typed tree, the delays of its timing generics, the numbers of the signals of
-- its bits (those of its ports, and then those of its internal signals), and the number of its first driver among all drivers.
pub record NetCell : Type 0 where
  pub path : List ℕ
  pub tree : TypedCell
  pub delays : List Delay
  pub wires : List ℕ
  pub first_driver : ℕ

-- What is borrowed of it.
abbrev pub lent_cell : NetCell' → NetCell
lent_cell c = record { path = c.path; tree = c.cell.now; delays = c.values.now; wires = c.wires.now; first_driver = c.first_driver }

-- Each driver has the number of its signal, and the value that it begins with.
pub record Network : Type 0 where
  pub signals : List NetSignal
  pub stimulus_drivers : List DesignDriver
  pub cell_drivers : List DesignDriver
  pub cells : List NetCell

-- All drivers in order: those of the stimuli come before those of the cells.
abbrev pub all_drivers : Network → List DesignDriver
all_drivers n = n.stimulus_drivers ++ n.cell_drivers

-- ---- processes

-- A process of an instance of a cell: the number of the instance among those of cells, the instance, the number of the process in it, and
-- what is executed.
pub record NetProcess : Type 0 where
  pub instance : ℕ
  pub cell : NetCell
  pub number : ℕ
  pub executed : Executed

abbrev pub processes_of : (ℕ × NetCell) → List NetProcess
processes_of (instance, cell) =
    map (λ x. record { instance = instance; cell = cell; number = x.0; executed = x.1 }) (enumerate_from 0 (all_executed cell.tree))

-- The processes of all instances, in number order. They come behind process 0, which is that of the stimuli.
abbrev pub processes : Network → List NetProcess
processes n = flat_map processes_of (enumerate_from 0 n.cells)

-- The bits to which a process is sensitive (IEEE 1076-1993, 8.1): a call of VitalWireDelay is a process that is sensitive to its InSig.
abbrev pub bits_listed : TypedCell → Executed → List ℕ
bits_listed c (Wire w) = bit_of c w.port ∷ []
bits_listed c (Process' p) = p.sensitivity

-- The numbers of the signals to which a process is sensitive.
abbrev pub sensitivity : NetProcess → List ℕ
sensitivity p = filter_map (slice_get p.cell.wires) (bits_listed p.cell.tree p.executed)
