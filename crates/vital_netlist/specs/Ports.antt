-- The bits of the ports of the top, as they are made: one port after another.
use Rattle.std.specs.Prelude.{ℕ, List, [], map, Option, Some, None}
use Rattle.std.specs.List.{filter_map, range_with_len}
use Rattle.vital_base.specs.declared.ports.PortBit.{PortBit}
use Rattle.vital_connections.specs.Objects.{Object}
use Rattle.vital_netlist.specs.Elaboration.{port_bit_in}
use Rattle.vital_netlist.specs.Bits.{bit}
use Rattle.vital_nodes.specs.declared.decl.Mode.{Mode}
use Rattle.vital_structure.specs.Shapes.{bits_of}

-- So many bits of a port of this mode, from the left. It does not matter which number the port has.
abbrev pub first_bits : Object → Mode → ℕ → List PortBit
first_bits o m count = filter_map (λ b. port_bit_in b o (Some m)) (map (λ offset. bit 0 (0, offset)) (range_with_len 0 count))

abbrev pub bits_as : Object → Option Mode → List PortBit
bits_as o None = []
bits_as o (Some m) = first_bits o m (bits_of o.shape)

-- All bits of a port. A signal has none of these.
abbrev pub bits_in : Object → List PortBit
bits_in o = bits_as o o.mode
