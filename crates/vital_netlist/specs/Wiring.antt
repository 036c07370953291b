-- The wiring and the drivers of one instance of a cell, as they are made.
use Rattle.std.specs.Prelude.{ℕ, List, [], map, length, Option}
use Rattle.std.specs.List.{filter_map, range_with_len, slice_get}
use Rattle.std.specs.Option.{option_and_then, option_map, option_map_or}
use Rattle.vital_connections.specs.Objects.{Object}
use Rattle.vital_netlist.specs.Cells.{Netlist}
use Rattle.vital_netlist.specs.declared.design_lists.DesignDriver.{DesignDriver}
use Rattle.vital_netlist.specs.Elaboration.{default_of}
use Rattle.vital_instances.specs.declared.instance.Instance.{Instance}
use Rattle.vital_netlist.specs.declared.bit.Bit.{Bit}
use Rattle.vital_netlist.specs.Bits.{bit}
use Rattle.vital_netlist.specs.Nets.{signal_number}
use Rattle.vital_netlist.specs.DesignObjects.{driven_at, objects_at}
use Rattle.vital_nodes.specs.declared.unit.Units.{Units}

-- The bits of so many ports and signals of the instance of a number, each of which is one bit.
abbrev pub single_bits : ℕ → ℕ → List Bit
single_bits n count = map (λ number. bit n (number, 0)) (range_with_len 0 count)

-- The signals of these bits.
abbrev pub wires : List Units → List Instance → ℕ → ℕ → List ℕ
wires files is n count = filter_map (signal_number files is) (single_bits n count)

abbrev pub driver_of : List Object → ℕ → ℕ → DesignDriver
driver_of os number signal =
    record { signal = signal; initial = default_of (option_and_then (λ o. o.default) (slice_get os number)) }

-- The driver of the port or signal of a number among these, which have these signals.
abbrev pub driver_at : List Object → List ℕ → ℕ → Option DesignDriver
driver_at os ws number = option_map (driver_of os number) (slice_get ws number)

-- The drivers of those that are driven.
abbrev pub drivers : List Object → List ℕ → List ℕ → List DesignDriver
drivers os ws driven = filter_map (driver_at os ws) driven

-- ---- of the instance of a number

-- Its ports and signals.
abbrev pub objects_of : Netlist → ℕ → List Object
objects_of netlist n = option_map_or (λ i. objects_at netlist.files i.entity) (slice_get netlist.instances n) []

-- The numbers of those that it drives.
abbrev pub driven_of : Netlist → ℕ → List ℕ
driven_of netlist n = option_map_or (λ i. driven_at netlist.files i.entity) (slice_get netlist.instances n) []

-- The signals of its ports and signals, each of which is one bit.
abbrev pub wires_of_number : Netlist → ℕ → List ℕ
wires_of_number netlist n = wires netlist.files netlist.instances n (length (objects_of netlist n))
