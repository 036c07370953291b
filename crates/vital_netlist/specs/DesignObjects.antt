-- The ports and signals of the units of a design (IEEE 1076-1993, 12.6.1).
use Rattle.std.specs.Prelude.{ℕ, List, [], drop, length, map, take}
use Rattle.std.specs.List.{enumerate_from}
use Rattle.std.specs.Option.{option_map_or}
use Rattle.vital_connections.specs.Objects.{Object, bits_of_all, object_of_signal}
use Rattle.vital_netlist.specs.Cells.{tree_of}
use Rattle.vital_netlist.specs.CellDrivers.{driven_numbers}
use Rattle.vital_netlist.specs.CellObjects.{objects_of_cell}
use Rattle.vital_instances.specs.Children.{ports_of}
use Rattle.vital_instances.specs.Units.{Unit, net_unit_of, unit_at}
use Rattle.vital_nodes.specs.declared.unit.Role.{Role}
use Rattle.vital_nodes.specs.declared.unit.Role.TheVariants as role
use Rattle.vital_nodes.specs.declared.unit.Units.{Units}
use Rattle.vital_structure.specs.Structures.{signals_of}

abbrev pub objects_as : List Units → Unit → Role → List Object
objects_as files u role.Lib = objects_of_cell (tree_of files u)
objects_as files u role.Net = map object_of_signal (signals_of (net_unit_of u))

-- The ports and then the signals of a unit, in order.
abbrev pub objects_in : List Units → Unit → List Object
objects_in files u = objects_as files u u.role

-- Those of the entity of a number, if it has an architecture.
abbrev pub objects_at : List Units → ℕ → List Object
objects_at files n = option_map_or (objects_in files) (unit_at files n) []

abbrev pub port_count : List Units → ℕ → ℕ
port_count files n = length (ports_of files n)

-- Its ports alone.
abbrev pub ports_at : List Units → ℕ → List Object
ports_at files n = take (port_count files n) (objects_at files n)

-- The bits of its ports, each by the number of its port and how far it is from the left.
abbrev pub port_bits : List Units → ℕ → List (ℕ × ℕ)
port_bits files n = bits_of_all (enumerate_from 0 (ports_at files n))

-- Those of its signals, whose numbers stand behind those of the ports.
abbrev pub signal_bits : List Units → ℕ → List (ℕ × ℕ)
signal_bits files n = bits_of_all (enumerate_from (port_count files n) (drop (port_count files n) (objects_at files n)))

abbrev pub driven_as : List Units → Unit → Role → List ℕ
driven_as files u role.Lib = driven_numbers (tree_of files u)
driven_as files u role.Net = []

-- The numbers of the ports and signals that the statements of the entity of a number drive, in order. A netlist unit drives none.
abbrev pub driven_at : List Units → ℕ → List ℕ
driven_at files n = option_map_or (λ u. driven_as files u u.role) (unit_at files n) []

-- The name of the entity of a number, if it has an architecture.
abbrev pub name_at : List Units → ℕ → List ℕ
name_at files n = option_map_or (λ u. u.entity.identifier.name) (unit_at files n) []
