-- When a design is sound: what simulation asks of it.
use Rattle.std.specs.Prelude.{◌≡◌, ℕ, ◌^◌, ◌<◌, ⊤, List, map, take, length, All, Option, Some, None}
use Rattle.std.specs.List.{IsDistinct, enumerate_from, filter_map, flat_map, slice_get, zip}
use Rattle.std.specs.Option.{option_and_then}
use Rattle.std.specs.Str.{bytes_eq}
use Rattle.vital_logic.specs.declared.level.Level.{Level}
use Rattle.vital_logic.specs.Levels.{byte_of}
use Rattle.vital_nodes.specs.IdentifierNames.{IsIdentifierName}
use Rattle.vital_typed_cells.specs.Sound.{IsSound, bit_count}
use Rattle.vital_typed_cells.specs.declared.typed_cell.TypedCell.{TypedCell}
use Rattle.vital_netlist.specs.Designs.{Design, DesignInstance, DesignSignal, Site}
use Rattle.vital_netlist.specs.CellDrivers.{driven_numbers}
use Rattle.vital_netlist.specs.Names.{bit_name}

-- ---- instances

-- An instance stands in one before it, with a label that is an identifier.
pub record IsSoundSite (n : ℕ) (s : Site) : Type 0 where
  pub before : s.instance < n
  pub label_formed : IsIdentifierName s.label

abbrev pub IsPlaced : ℕ → Option Site → Type 0
IsPlaced n None = n ≡ 0
IsPlaced n (Some s) = IsSoundSite n s

-- A number is that of one of so many, if there is one.
abbrev pub IsThere : ℕ → Option ℕ → Type 0
IsThere count None = ⊤
IsThere count (Some n) = n < count

-- The instance of a number: the top, which is the first one, stands nowhere, and all others do.
pub record IsSoundInstance (d : Design) (i : ℕ × DesignInstance) : Type 0 where
  pub placed : IsPlaced i.0 i.1.site
  pub unit_formed : IsIdentifierName i.1.unit
  pub cell_there : IsThere (length d.cells) i.1.cell

-- ---- signals, drivers and wiring

pub record IsSoundSignal (d : Design) (s : DesignSignal) : Type 0 where
  pub instance_there : s.instance < length d.instances
  pub identifier_formed : IsIdentifierName s.identifier

-- The cells of the instances of cells, in order.
abbrev pub placed_cells : Design → List TypedCell
placed_cells d = filter_map (λ i. option_and_then (slice_get d.cells) i.cell) d.instances

-- Each with its wiring.
abbrev pub wired_cells : Design → List (TypedCell × List ℕ)
wired_cells d = zip (placed_cells d) d.wiring

-- A signal for each bit of the ports and of the internal signals of a cell.
pub record IsWired (d : Design) (c : TypedCell × List ℕ) : Type 0 where
  pub all : length c.1 ≡ bit_count c.0
  pub there : All (λ signal. signal < length d.signals) c.1

-- The signals that the statements of a cell with a wiring drive, in order.
abbrev pub driven_signals : (TypedCell × List ℕ) → List ℕ
driven_signals c = filter_map (slice_get c.1) (driven_numbers c.0)

-- ---- ports

abbrev pub signal_bit_name : DesignSignal → List ℕ
signal_bit_name s = bit_name s.identifier s.index

abbrev pub IsLevelByte : ℕ → Type 0
IsLevelByte byte = (l : Level) × (byte ≡ byte_of l)

-- ---- designs

pub record IsSoundDesign (d : Design) : Type 0 where
  pub cells_sound : All IsSound d.cells
  -- Each number is there, and each name is an identifier.
  pub instances_sound : All (IsSoundInstance d) (enumerate_from 0 d.instances)
  pub signals_sound : All (IsSoundSignal d) d.signals
  pub drivers_there : All (λ driver. driver.signal < length d.signals) d.drivers
  -- Each instance of a cell is wired, and the drivers are those of all of these, in order.
  pub wired_once : length d.wiring ≡ length (placed_cells d)
  pub wired : All (IsWired d) (wired_cells d)
  pub drivers_of_cells : map (λ driver. driver.signal) d.drivers ≡ flat_map driven_signals (wired_cells d)
  -- The bits of the top's ports are the first signals, in order, and differ in name.
  pub ports_first : map (λ p. p.name) d.ports ≡ map signal_bit_name (take (length d.ports) d.signals)
  pub ports_at_top : All (λ s. s.instance ≡ 0) (take (length d.ports) d.signals)
  pub ports_differ : IsDistinct bytes_eq (map (λ p. p.name) d.ports)
  pub ports_levels : All (λ p. IsLevelByte p.initial) d.ports
  -- There are fewer than 2^31 of each.
  pub few_instances : length d.instances < 2 ^ 31
  pub few_signals : length d.signals < 2 ^ 31
  pub few_drivers : length d.drivers < 2 ^ 31
