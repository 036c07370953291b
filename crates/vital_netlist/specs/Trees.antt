-- What is printed of a design.
use Rattle.std.specs.Prelude.{ℕ, Bool, is_some, List, map}
use Rattle.std.specs.List.{enumerate_from}
use Rattle.vital_netlist.specs.Designs.{Design, DesignInstance, DesignSignal, drivers_of, labels}
use Rattle.vital_netlist.specs.Names.{path_name, signal_name}

-- An instance: its path, its unit, and whether it is one of a cell.
pub record TreeInstance : Type 0 where
  pub path : List ℕ
  pub unit : List ℕ
  pub is_cell : Bool

-- A signal: its name, whether it is of a resolved type, and how many drivers it has in cells.
pub record TreeSignal : Type 0 where
  pub name : List ℕ
  pub is_resolved : Bool
  pub drivers : ℕ

-- A name in a design, as text.
pub record NameText : Type 0 where
  pub design : Design
  pub name : List ℕ

abbrev pub path_of : Design → ℕ → List ℕ
path_of d n = path_name (labels d n)

abbrev pub tree_instance : Design → (ℕ × DesignInstance) → TreeInstance
tree_instance d i = record { path = path_of d i.0; unit = i.1.unit; is_cell = is_some i.1.cell }

abbrev pub name_of : Design → DesignSignal → List ℕ
name_of d s = signal_name (labels d s.instance) s.identifier s.index

abbrev pub tree_signal : Design → (ℕ × DesignSignal) → TreeSignal
tree_signal d s = record { name = name_of d s.1; is_resolved = s.1.is_resolved; drivers = drivers_of d s.0 }

-- The instances, in order, and then the signals, in order.
abbrev pub tree_instances : Design → List TreeInstance
tree_instances d = map (tree_instance d) (enumerate_from 0 d.instances)

abbrev pub tree_signals : Design → List TreeSignal
tree_signals d = map (tree_signal d) (enumerate_from 0 d.signals)
