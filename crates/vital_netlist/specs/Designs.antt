-- Designs (IEEE 1076-1993, clause 12): what is left of a library under a top for printing and for simulation.
use Rattle.std.specs.Prelude.{◌≡◌, ℕ, zero, suc, ◌<◌, Bool, ◌==◌, List, [], ◌∷◌, ◌++◌, map, Option, Some, None}
use Rattle.std.specs.List.{count_by, slice_get}
use Rattle.std.specs.Option.{option_map, option_map_or}
use Rattle.vital_base.specs.declared.ports.PortBit.{PortBit}
use Rattle.vital_logic.specs.declared.level.Level.{Level}
use Rattle.vital_typed_cells.specs.declared.typed_cell.TypedCell.{TypedCell}
use Rattle.vital_netlist.specs.declared.design_lists.DesignInstance.{DesignInstance as DesignInstance'}
use Rattle.vital_netlist.specs.declared.design_lists.DesignLists.{DesignLists}
use Rattle.vital_netlist.specs.declared.design_lists.DesignSignal.{DesignSignal as DesignSignal'}
use Rattle.vital_netlist.specs.declared.design_lists.Site.{Site as Site'}
use Rattle.vital_netlist.specs.declared.design_lists.DesignDriver.{DesignDriver}

-- Where an instance stands: in the instance of a number, with a label.
pub record Site : Type 0 where
  pub instance : ℕ
  pub label : List ℕ

-- An instance: where it stands, unless it is the top; the name of its unit; and the number of its cell, if it is one of a cell.
pub record DesignInstance : Type 0 where
  pub site : Option Site
  pub unit : List ℕ
  pub cell : Option ℕ

-- A signal: the number of the instance that owns it, the identifier of its port or signal there, and its index if that is a vector;
-- whether it is of a resolved type; and its value as long as nothing drives it.
pub record DesignSignal : Type 0 where
  pub instance : ℕ
  pub identifier : List ℕ
  pub index : Option ℕ
  pub is_resolved : Bool
  pub initial : Level

-- The instances in preorder, the signals and the drivers; the bits of the top's ports; the cells; and for each instance of a cell, in order,
-- the numbers of the signals of its bits: those of its ports, and then those of its internal signals.
pub record Design : Type 0 where
  pub instances : List DesignInstance
  pub signals : List DesignSignal
  pub drivers : List DesignDriver
  pub ports : List PortBit
  pub cells : List TypedCell
  pub wiring : List (List ℕ)

-- ---- what is borrowed of these

abbrev pub lent_site : Site' → Site
lent_site s = record { instance = s.instance; label = s.label.now }

abbrev pub lent_instance : DesignInstance' → DesignInstance
lent_instance i = record { site = option_map lent_site i.site; unit = i.unit.now; cell = i.cell }

abbrev pub lent_signal : DesignSignal' → DesignSignal
lent_signal s = record {
  instance = s.instance;
  identifier = s.identifier.now;
  index = s.index;
  is_resolved = s.is_resolved;
  initial = s.initial;
}

abbrev pub lent_lists : DesignLists → Design
lent_lists d = record {
  instances = map lent_instance d.instances.items;
  signals = map lent_signal d.signals.items;
  drivers = d.drivers.items;
  ports = d.ports;
  cells = d.cells.now;
  wiring = d.wiring.items;
}

-- ---- what is asked of a design

abbrev pub site_of : List DesignInstance → ℕ → Option Site
site_of is n = option_map_or (λ i. i.site) (slice_get is n) None

-- Each instance stands in one before it.
abbrev pub StandBehind : List DesignInstance → Type 0
StandBehind is = (n : ℕ) (s : Site) → site_of is n ≡ Some s → s.instance < n

abbrev pub behind : (ℕ → List (List ℕ)) → Option Site → List (List ℕ)
behind labels None = []
behind labels (Some s) = labels s.instance ++ s.label ∷ []

-- The labels on the path of an instance, where at most so many instances stand above it.
abbrev pub labels_within : ℕ → List DesignInstance → ℕ → List (List ℕ)
labels_within zero is n = []
labels_within (suc levels) is n = behind (labels_within levels is) (site_of is n)

-- The labels on the path of an instance, from the top on. Each instance above has a lesser number.
abbrev pub labels : Design → ℕ → List (List ℕ)
labels d n = labels_within n d.instances n

-- How many drivers a signal has.
abbrev pub drivers_of : Design → ℕ → ℕ
drivers_of d n = count_by (λ driver. driver.signal == n) d.drivers
