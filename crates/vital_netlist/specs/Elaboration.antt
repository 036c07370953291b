-- Elaboration of a library under a top (IEEE 1076-1993, clause 12): its design, or its first fault.
use Rattle.std.specs.Prelude.{◌≡◌, ℕ, Bool, true, false, List, [], map, if◌then◌else◌, Option, Some, None, unwrap_or, Result, Ok, Err}
use Rattle.std.specs.List.{enumerate_from, filter_map, slice_get}
use Rattle.std.specs.Option.{option_and_then, option_map, option_map_or, option_or}
use Rattle.vital_base.specs.declared.place.Place.{Place}
use Rattle.vital_base.specs.declared.ports.PortBit.{PortBit}
use Rattle.vital_logic.specs.declared.level.Level.{Level}
use Rattle.vital_logic.specs.declared.level.Level.TheVariants.{U}
use Rattle.vital_logic.specs.Levels.{byte_of}
use Rattle.vital_nodes.specs.declared.decl.Mode.{Mode}
use Rattle.vital_nodes.specs.declared.decl.Mode.TheVariants as mode
use Rattle.vital_nodes.specs.declared.unit.Units.{Units}
use Rattle.vital_instances.specs.declared.instance.Instance.{Instance}
use Rattle.vital_instances.specs.declared.instance.Position.{Position}
use Rattle.vital_instances.specs.Contents.{children_at}
use Rattle.vital_instances.specs.Faults.{Fault as InstanceFault}
use Rattle.vital_instances.specs.Instances.{instances}
use Rattle.vital_instances.specs.Judges.{IsJudge, Judge}
use Rattle.vital_connections.specs.Objects.{Object, index_at}
use Rattle.vital_netlist.specs.Cells.{cell_number, cells, is_cell}
use Rattle.vital_netlist.specs.declared.design_lists.DesignDriver.{DesignDriver}
use Rattle.vital_netlist.specs.Designs.{Design, DesignInstance, DesignSignal, Site}
use Rattle.vital_netlist.specs.Names.{bit_name}
use Rattle.vital_netlist.specs.declared.bit.Bit.{Bit}
use Rattle.vital_netlist.specs.Bits.{bits_of_instance, object_of}
use Rattle.vital_netlist.specs.Nets.{place_too_many, signal_number, signals, tied}
use Rattle.vital_netlist.specs.DesignObjects.{name_at}
use Rattle.vital_netlist.specs.DesignDrivers.{all_driven_bits, first_driven_twice}

-- ---- instances

-- The label of an instance at a position in an instance of the entity of a number.
abbrev pub label_in : List Units → Position → Instance → Option (List ℕ)
label_in files p parent = option_map (λ c. c.label.name) (slice_get (children_at files parent.entity) p.child)

abbrev pub site_at : List Units → List Instance → Position → Option Site
site_at files is p =
    option_map (λ label. record { instance = p.parent; label = label }) (option_and_then (label_in files p) (slice_get is p.parent))

abbrev pub design_instance : List Units → List Instance → Instance → DesignInstance
design_instance files is i = record {
  site = option_and_then (site_at files is) i.position;
  unit = name_at files i.entity;
  cell = cell_number files is i;
}

-- ---- signals and drivers

abbrev pub default_of : Option Level → Level
default_of level = unwrap_or level U

-- What a bit is while nothing drives it: the level that it is tied to, else its default, else 'U' (4.3.1.2).
abbrev pub initial_of : Option Level → Object → Level
initial_of tied o = default_of (option_or tied o.default)

abbrev pub signal_with : List Units → List Instance → Bit → Object → DesignSignal
signal_with files is b o = record {
  instance = b.instance;
  identifier = o.name;
  index = index_at o.shape b.offset;
  is_resolved = o.is_resolved;
  initial = initial_of (tied files is b) o;
}

-- The signal that a bit is.
abbrev pub design_signal : List Units → List Instance → Bit → Option DesignSignal
design_signal files is b = option_map (signal_with files is b) (object_of files is b)

abbrev pub driver_with : Object → ℕ → DesignDriver
driver_with o signal = record { signal = signal; initial = default_of o.default }

-- The driver that drives a bit: of the signal of this bit. It begins with the default of the bit, or with 'U' (12.6.1).
abbrev pub design_driver : List Units → List Instance → Bit → Option DesignDriver
design_driver files is b = option_and_then (λ o. option_map (driver_with o) (signal_number files is b)) (object_of files is b)

-- ---- the ports of the top

-- A stimulus may drive a port of this mode.
abbrev pub is_input : Mode → Bool
is_input mode.In = true
is_input mode.Out = false
is_input mode.Inout = true
is_input mode.Buffer = false
is_input mode.Linkage = false

abbrev pub port_bit_in : Bit → Object → Option Mode → Option PortBit
port_bit_in b o None = None
port_bit_in b o (Some m) =
    Some (record { name = bit_name o.name (index_at o.shape b.offset); input = is_input m; initial = byte_of (default_of o.default) })

-- The bit of a port, if it is one.
abbrev pub port_bit : List Units → List Instance → Bit → Option PortBit
port_bit files is b = option_and_then (λ o. port_bit_in b o o.mode) (object_of files is b)

abbrev pub top_bits : List Units → List Instance → List Bit
top_bits files is = option_map_or (λ i. bits_of_instance files (0, i)) (slice_get is 0) []

abbrev pub port_bits : List Units → List Instance → List PortBit
port_bits files is = filter_map (port_bit files is) (top_bits files is)

-- ---- wiring

-- The signals of the bits of the instance of a number: those of its ports, and then those of its signals.
abbrev pub wires_of : List Units → List Instance → (ℕ × Instance) → List ℕ
wires_of files is i = filter_map (signal_number files is) (bits_of_instance files i)

abbrev pub wires_if_cell : List Units → List Instance → (ℕ × Instance) → Option (List ℕ)
wires_if_cell files is i = if is_cell files i.1 then Some (wires_of files is i) else None

-- One list for each instance of a cell, in order.
abbrev pub wiring : List Units → List Instance → List (List ℕ)
wiring files is = filter_map (wires_if_cell files is) (enumerate_from 0 is)

-- ---- the design

-- The design that instances of units of a library make, each of which stands behind the one that it is in.
abbrev pub design_of : List Units → List Instance → Design
design_of files is = record {
  instances = map (design_instance files is) is;
  signals = filter_map (design_signal files is) (signals files is);
  drivers = filter_map (design_driver files is) (all_driven_bits files is);
  ports = port_bits files is;
  cells = cells files is;
  wiring = wiring files is;
}

-- ---- faults

-- Why a library has no design under a top: the first fault of entering its instances; one signal too many, at its identifier; or a signal
-- of an unresolved type that has two drivers, at its identifier and by its name.
pub data Fault : Type 0 where
  Entering : InstanceFault → Fault
  TooManySignals : Place → Fault
  TwoDrivers : Place → List ℕ → Fault

-- There is a signal that is one too many.
abbrev pub fault_of_count : List Units → List Instance → Option Fault
fault_of_count files is = option_map TooManySignals (place_too_many files is)

abbrev pub driven_twice : Object → Fault
driven_twice o = TwoDrivers o.place o.name

-- The first signal of an unresolved type that has two drivers.
abbrev pub fault_of_drivers : List Units → List Instance → Option Fault
fault_of_drivers files is =
    option_map driven_twice (option_and_then (λ s. object_of files is s.1) (first_driven_twice files is (signals files is)))

abbrev pub unless_fault : Option Fault → Design → Result Design Fault
unless_fault None d = Ok d
unless_fault (Some f) d = Err f

-- The design of these instances, or its first fault: the number of the signals is asked before their drivers are.
abbrev pub designed : List Units → List Instance → Result Design Fault
designed files is = unless_fault (option_or (fault_of_count files is) (fault_of_drivers files is)) (design_of files is)

abbrev pub entered : List Units → Result (List Instance) InstanceFault → Result Design Fault
entered files (Ok is) = designed files is
entered files (Err f) = Err (Entering f)

-- The design of a library under a top, or its first fault: those of entering its instances, in preorder, before those of their signals.
abbrev pub elaborated : Judge → List Units → List ℕ → Result Design Fault
elaborated judge files top = entered files (instances judge files top)

-- This comes of a library under a top, whose cells are judged by the clauses of VITAL.
abbrev pub IsElaborated : List Units → List ℕ → Result Design Fault → Type 0
IsElaborated files top result = (judge : Judge) × IsJudge judge × (result ≡ elaborated judge files top)
