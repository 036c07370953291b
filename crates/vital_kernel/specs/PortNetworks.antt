-- The network of ports alone: each is a signal with one driver, which is for stimuli, and there is no cell. It is that of a design.
use Rattle.std.specs.Prelude.{◌≡◌, false, true, List, [], ◌∷◌, codes, map, None}
use Rattle.std.specs.List.{enumerate_from}
use Rattle.vital_base.specs.declared.ports.PortBit.{PortBit}
use Rattle.vital_netlist.specs.Designs.{Design, DesignInstance, DesignSignal}
use Rattle.vital_stim.specs.declared.stimuli.StimLine.{StimLine}
use Rattle.vital_kernel.specs.DesignNetworks.{initial_level, network, stimulus_driver}
use Rattle.vital_kernel.specs.Networks.{Network}
use Rattle.vital_kernel.specs.declared.network.NetSignal.{NetSignal}
use Rattle.vital_base.specs.declared.watch.Watch.TheVariants.{All}

abbrev pub port_signal : PortBit → NetSignal
port_signal port = record { name = port.name; is_watched = true; initial = initial_level port }

abbrev pub port_network : List PortBit → Network
port_network ports = record {
  signals = map port_signal ports;
  stimulus_drivers = map stimulus_driver (enumerate_from 0 ports);
  cell_drivers = [];
  cells = [];
}

-- ---- as a design

abbrev pub signal_in_design : PortBit → DesignSignal
signal_in_design port =
    record { instance = 0; identifier = port.name; index = None; is_resolved = false; initial = initial_level port }

-- The top, which has no name of its own.
abbrev pub port_top : DesignInstance
port_top = record { site = None; unit = codes "top"; cell = None }

abbrev pub port_design : List PortBit → Design
port_design ports =
    record { instances = port_top ∷ []; signals = map signal_in_design ports; drivers = []; ports = ports; cells = []; wiring = [] }

-- The network of ports is that of this design with these stimuli, of which all signals are watched.
abbrev pub IsOfDesign : List PortBit → List StimLine → Type 0
IsOfDesign ports lines = network (port_design ports) [] lines All ≡ port_network ports
