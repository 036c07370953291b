-- The drivers of a design (IEEE 1076-1993, 12.6.1): by instances, and in each by its statements.
use Rattle.std.specs.Prelude.{ℕ, ◌+◌, Bool, true, false, not, ◌&&◌, nat_le, nat_eq, List, map, Option, Some, if◌then◌else◌}
use Rattle.std.specs.List.{count_by, enumerate_from, find, flat_map}
use Rattle.std.specs.Option.{option_map_or}
use Rattle.vital_connections.specs.Objects.{Object}
use Rattle.vital_instances.specs.declared.instance.Instance.{Instance}
use Rattle.vital_netlist.specs.declared.bit.Bit.{Bit}
use Rattle.vital_netlist.specs.Bits.{bit, object_of}
use Rattle.vital_netlist.specs.Nets.{signal_number}
use Rattle.vital_netlist.specs.DesignObjects.{driven_at}
use Rattle.vital_nodes.specs.declared.decl.Mode.{Mode}
use Rattle.vital_nodes.specs.declared.decl.Mode.TheVariants as mode
use Rattle.vital_nodes.specs.declared.unit.Units.{Units}

-- The bits that the instance of a number drives: there is a driver for each in a cell, whose ports and signals are one bit each, and none
-- in a netlist unit.
abbrev pub driven_bits : List Units → (ℕ × Instance) → List Bit
driven_bits files i = map (λ number. bit i.0 (number, 0)) (driven_at files i.1.entity)

-- The bits that drivers drive, by the numbers of the drivers.
abbrev pub all_driven_bits : List Units → List Instance → List Bit
all_driven_bits files is = flat_map (driven_bits files) (enumerate_from 0 is)

abbrev pub drives : List Units → List Instance → ℕ → Bit → Bool
drives files is signal b = option_map_or (nat_eq signal) (signal_number files is b) false

-- How many drivers a signal has.
abbrev pub driver_count : List Units → List Instance → ℕ → ℕ
driver_count files is signal = count_by (drives files is signal) (all_driven_bits files is)

-- ---- two drivers

abbrev pub is_inout : Option Mode → Bool
is_inout (Some mode.Inout) = true
is_inout _ = false

-- A signal may be driven from outside: it is a bit of an inout port of the top.
abbrev pub is_driven_outside : Bit → Object → Bool
is_driven_outside b o = nat_eq b.instance 0 && is_inout o.mode

-- So many drivers are two, but may not be.
abbrev pub has_two_with : ℕ → Bit → Object → Bool
has_two_with count b o = not o.is_resolved && nat_le 2 (count + (if is_driven_outside b o then 1 else 0))

abbrev pub has_two : List Units → List Instance → ℕ → Bit → Object → Bool
has_two files is n b o = has_two_with (driver_count files is n) b o

-- A signal that is not resolved has two drivers.
abbrev pub is_driven_twice : List Units → List Instance → (ℕ × Bit) → Bool
is_driven_twice files is s = option_map_or (has_two files is s.0 s.1) (object_of files is s.1) false

-- The first of these signals, in order.
abbrev pub first_driven_twice : List Units → List Instance → List Bit → Option (ℕ × Bit)
first_driven_twice files is signals = find (is_driven_twice files is) (enumerate_from 0 signals)
