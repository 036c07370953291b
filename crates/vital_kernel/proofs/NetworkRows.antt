-- Worked rows of networks and of what a process sees, by computation. Times are in femtoseconds.
use Rattle.std.proofs.Common.{◌≡◌, List, [], ◌∷◌, map, refl}
use Rattle.std.specs.Prelude.{false, true, codes}
use Rattle.std.specs.List.{flat_map}
use Rattle.vital_base.specs.declared.ports.PortBit.{PortBit}
use Rattle.vital_logic.specs.declared.level.Level.TheVariants.{U, X, Zero, One, Z, W, L, H}
use Rattle.vital_netlist.specs.Designs.{Design}
use Rattle.vital_netlist.specs.Soundness.{driven_signals, wired_cells}
use Rattle.vital_stim.specs.declared.stimuli.StimLine.{StimLine}
use Rattle.vital_timing.specs.declared.glitch_mode.GlitchMode.TheVariants.{OnEvent}
use Rattle.vital_kernel.specs.Cycles.{driver_of_port}
use Rattle.vital_kernel.specs.DesignNetworks.{network, stimulus_drivers}
use Rattle.vital_kernel.specs.Networks.{Network, all_drivers, processes, sensitivity}
use Rattle.vital_kernel.specs.States.{values}
use Rattle.vital_kernel.specs.Processes.{input}
use Rattle.vital_signals.specs.Values.{driven}
use Rattle.vital_signals.specs.Events.{quiet_signal, with_value}
use Rattle.vital_base.specs.declared.watch.Watch.TheVariants.{All, Ports}
use Rattle.vital_kernel.proofs.BufferParts.{buffer, delays_of, driver, since}
use Rattle.vital_kernel.proofs.RowParts.{drives, input_port, instance, line, net, top}

-- ---- drivers

abbrev three_ports : List PortBit
three_ports = input_port (codes "p") One ∷ input_port (codes "q") L ∷ input_port (codes "r") Z ∷ []

abbrev two_lines : List StimLine
two_lines = line 5 2 X ∷ line 7 0 Zero ∷ line 8 2 One ∷ []

-- They come in the order of the port bits, for those that a line names, and begin with the defaults of these.
row_stimulus_drivers : stimulus_drivers three_ports two_lines ≡ drives 0 One ∷ drives 2 Z ∷ []
row_stimulus_drivers = refl

row_no_stimuli : stimulus_drivers three_ports [] ≡ []
row_no_stimuli = refl

-- Two buffers in a row, from p to q and from there to r.
abbrev design : Design
design = record {
  instances = top ∷ instance (codes "u1") ∷ instance (codes "u2") ∷ [];
  signals =
      net 0 (codes "p") U
      ∷ net 0 (codes "q") U
      ∷ net 0 (codes "r") U
      ∷ net 1 (codes "a_ipd") U
      ∷ net 2 (codes "a_ipd") X
      ∷ [];
  drivers = drives 3 U ∷ drives 1 U ∷ drives 4 X ∷ drives 2 U ∷ [];
  ports = three_ports;
  cells = buffer OnEvent true ∷ [];
  wiring = (0 ∷ 1 ∷ 3 ∷ []) ∷ (1 ∷ 2 ∷ 4 ∷ []) ∷ [];
}

abbrev two_buffers : Network
two_buffers = network design (delays_of 3 1 ∷ delays_of 4 2 ∷ []) two_lines Ports

-- Those of its cells are the ones that a sound design has: of each instance, in the order of its statements.
row_drivers_of_cells : map (λ driver. driver.signal) design.drivers ≡ flat_map driven_signals (wired_cells design)
row_drivers_of_cells = refl

-- Those of the cells come behind them.
row_all_drivers : all_drivers two_buffers ≡ drives 0 One ∷ drives 2 Z ∷ drives 3 U ∷ drives 1 U ∷ drives 4 X ∷ drives 2 U ∷ []
row_all_drivers = refl

row_first_drivers : map (λ cell. cell.first_driver) two_buffers.cells ≡ 2 ∷ 4 ∷ []
row_first_drivers = refl

row_driver_of_port : driver_of_port two_buffers 2 ≡ 1
row_driver_of_port = refl

-- ---- names

row_paths : map (λ cell. cell.path) two_buffers.cells ≡ codes "u1" ∷ codes "u2" ∷ []
row_paths = refl

row_names : map (λ signal. signal.name) two_buffers.signals ≡ codes "p" ∷ codes "q" ∷ codes "r" ∷ codes "u1.a_ipd" ∷ codes "u2.a_ipd" ∷ []
row_names = refl

row_watched : map (λ signal. signal.is_watched) two_buffers.signals ≡ true ∷ true ∷ true ∷ false ∷ false ∷ []
row_watched = refl

row_all_watched : map (λ signal. signal.is_watched) (network design [] [] All).signals ≡ true ∷ true ∷ true ∷ true ∷ true ∷ []
row_all_watched = refl

-- ---- processes

-- The wire delay of an instance, and then its path delay.
row_instances : map (λ p. p.instance) (processes two_buffers) ≡ 0 ∷ 0 ∷ 1 ∷ 1 ∷ []
row_instances = refl

row_numbers : map (λ p. p.number) (processes two_buffers) ≡ 0 ∷ 1 ∷ 0 ∷ 1 ∷ []
row_numbers = refl

-- A wire delay is sensitive to the signal of its port.
row_sensitivity : map sensitivity (processes two_buffers) ≡ (0 ∷ []) ∷ (3 ∷ []) ∷ (1 ∷ []) ∷ (4 ∷ []) ∷ []
row_sensitivity = refl

-- A process that stands before the wires comes before them.
abbrev process_first : Network
process_first = network (record design { cells = record (buffer OnEvent true) { processes_before_wires = 1 } ∷ [] }) (delays_of 3 1 ∷ delays_of 4 2 ∷ []) [] All

row_process_first : map sensitivity (processes process_first) ≡ (3 ∷ []) ∷ (0 ∷ []) ∷ (4 ∷ []) ∷ (1 ∷ []) ∷ []
row_process_first = refl

-- ---- values

row_default : driven H [] ≡ H
row_default = refl

-- The value of one driver is not resolved.
row_one_driver : driven H (U ∷ []) ≡ U
row_one_driver = refl

row_more_drivers : driven H (Z ∷ L ∷ One ∷ []) ≡ One
row_more_drivers = refl

-- r is driven by stimuli and by the second buffer.
row_values :
    values two_buffers (driver Zero [] ∷ driver H [] ∷ driver X [] ∷ driver One [] ∷ driver U [] ∷ driver L [] ∷ [])
    ≡ Zero ∷ One ∷ W ∷ X ∷ U ∷ []
row_values = refl

-- ---- events, and what a process sees of them

row_no_event : with_value 9 (since 4 U One, One) ≡ since 4 U One
row_no_event = refl

row_event : with_value 9 (since 4 U One, Z) ≡ since 9 One Z
row_event = refl

row_seen : input 9 (since 4 U One) ≡ record { value = One; last = U; age = 5 }
row_seen = refl

-- Without an event LAST_VALUE is the value, and LAST_EVENT is TIME'HIGH.
row_unseen : input 9 (quiet_signal H) ≡ record { value = H; last = H; age = 9_223_372_036_854_775_807 }
row_unseen = refl
