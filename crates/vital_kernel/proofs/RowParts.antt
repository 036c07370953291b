-- What worked rows of runs are made of.
use Rattle.std.proofs.Common.{ℕ, List, [], ◌∷◌, Option, Some, None}
use Rattle.std.specs.Prelude.{false, true, codes}
use Rattle.std.specs.Option.{option_map}
use Rattle.vital_base.specs.declared.ports.PortBit.{PortBit}
use Rattle.vital_level0.specs.declared.parts.Edge.TheVariants.{Absent}
use Rattle.vital_level0.specs.declared.parts.Prefix.TheVariants.{Tipd}
use Rattle.vital_logic.specs.Levels.{byte_of}
use Rattle.vital_logic.specs.declared.level.Level.{Level}
use Rattle.vital_logic.specs.declared.level.Level.TheVariants.{U}
use Rattle.vital_netlist.specs.Designs.{Design, DesignInstance, DesignSignal}
use Rattle.vital_netlist.specs.declared.design_lists.DesignDriver.{DesignDriver}
use Rattle.vital_nodes.specs.declared.decl.Mode.{Mode}
use Rattle.vital_nodes.specs.declared.decl.Mode.TheVariants.{In}
use Rattle.vital_objects.specs.declared.control.Controls.{Controls}
use Rattle.vital_objects.specs.declared.control.ControlValue.TheVariants as control_value
use Rattle.vital_objects.specs.declared.generic.TimingGeneric.{TimingGeneric}
use Rattle.vital_objects.specs.declared.port.Port.{Port}
use Rattle.vital_objects.specs.declared.signal.Signal.{Signal}
use Rattle.vital_stim.specs.declared.stimuli.StimLine.{StimLine}
use Rattle.vital_timing.specs.declared.delay.Delay.{Delay}
use Rattle.vital_timing.specs.declared.delay.Delay.TheVariants as delay
use Rattle.vital_typed_cells.specs.declared.typed_cell.TypedCell.{TypedCell}
use Rattle.vital_typed_cells.specs.declared.wire.WireDelay.{WireDelay}
use Rattle.vital_kernel.specs.DesignNetworks.{network}
use Rattle.vital_kernel.specs.Lines.{run_lines}
use Rattle.vital_report.specs.Lines.{Said}
use Rattle.vital_kernel.specs.Networks.{Network}
use Rattle.vital_kernel.specs.Runs.{End, Run, whole_run}
use Rattle.vital_base.specs.declared.watch.Watch.{Watch}

-- ---- what is asked and told

-- The port bit of a number gets a value at a time.
abbrev pub line : ℕ → ℕ → Level → StimLine
line time number value = record { time = time; port = number; value = value }

-- The lines of a run, and its end.
abbrev pub Told : Type 0
Told = List Said × End

abbrev pub told : Network → Run → Told
told n r = (run_lines n r.happened, r.end)

-- A run of a design, whose instances of cells have these delays, up to an end time and with a limit of delta numbers.
abbrev pub simulated : Design → List (List Delay) → Watch → List StimLine → ℕ → ℕ → Option Told
simulated d values watch lines until limit =
    let n = network d values lines watch in
    option_map (told n) (whole_run n lines until limit)

-- ---- designs

-- A netlist unit as the top, and an instance in it of the cell of number 0.
abbrev pub top : DesignInstance
top = record { site = None; unit = codes "top"; cell = None }

abbrev pub instance : List ℕ → DesignInstance
instance label = record { site = Some (record { instance = 0; label = label }); unit = codes "cell"; cell = Some 0 }

-- The cell of number 0 as the top.
abbrev pub top_cell : DesignInstance
top_cell = record { site = None; unit = codes "cell"; cell = Some 0 }

-- A signal that an instance owns, with its value as long as nothing drives it.
abbrev pub net : ℕ → List ℕ → Level → DesignSignal
net number identifier initial = record { instance = number; identifier = identifier; index = None; is_resolved = true; initial = initial }

abbrev pub drives : ℕ → Level → DesignDriver
drives number initial = record { signal = number; initial = initial }

-- A port of the top that stimuli may drive.
abbrev pub input_port : List ℕ → Level → PortBit
input_port name initial = record { name = name; input = true; initial = byte_of initial }

-- ---- cells

abbrev pub port : List ℕ → Mode → Port
port name mode = record { name = name; place = record { file = 0; line = 3; column = 9 }; mode = mode; is_resolved = false; default = None }

abbrev pub signal : List ℕ → Signal
signal name = record { name = name; place = record { file = 0; line = 7; column = 9 }; is_resolved = false; initial = U }

-- Its parts have no effect in a run.
abbrev pub timing_generic : List ℕ → TimingGeneric
timing_generic name = record {
  name = name;
  parts = record { kind = Tipd; first = 0; second = None; condition = None; edges = Absent ∷ Absent ∷ [] };
  default = delay.Two 0 0;
}

abbrev pub controls : Controls
controls = record { timing_checks_on = control_value.Literal true; x_on = control_value.Literal true; msg_on = control_value.Literal true }

abbrev pub wire : WireDelay
wire = record { signal = codes "a_ipd"; port = codes "a"; generic = codes "tipd_a" }

-- A cell of one wire delay, from its port a to its signal a_ipd after tipd_a.
abbrev pub wire_cell : TypedCell
wire_cell = record {
  ports = port (codes "a") In ∷ [];
  generics = timing_generic (codes "tipd_a") ∷ [];
  plain_generics = [];
  controls = controls;
  signals = signal (codes "a_ipd") ∷ [];
  constants = [];
  packages = [];
  wires = wire ∷ [];
  processes_before_wires = 0;
  processes = [];
}

-- The delays of a rise and of a fall of such a wire.
abbrev pub tipd : ℕ → ℕ → List Delay
tipd rise fall = delay.Two rise fall ∷ []
