-- What the wire delays and path delays of a cell drive.
use Rattle.std.specs.Prelude.{ℕ, List, map}
use Rattle.std.specs.List.{filter_map}
use Rattle.vital_drivers.specs.PathDelays.{path_delays}
use Rattle.vital_drivers.specs.Wires.{Wire, wire_of}
use Rattle.vital_names.specs.Sites.{Cell}
use Rattle.vital_uses.specs.Statements.{statements}

-- The wire delays among all concurrent statements, in order, each as its signal and its port.
abbrev pub wires : Cell → List Wire
wires cell = filter_map (wire_of cell) (statements cell.arch)

-- The names of the ports that path delays drive, in order.
abbrev pub ports_driven : Cell → List (List ℕ)
ports_driven cell = map (λ i. i.name) (filter_map (λ d. d.port) (path_delays cell))
