-- The bits of a design (IEEE 1076-1993, 12.6.1).
use Rattle.std.specs.Prelude.{ℕ, Bool, ◌&&◌, ◌==◌, List, map, Option}
use Rattle.std.specs.List.{enumerate_from, flat_map, slice_get}
use Rattle.std.specs.Option.{option_and_then}
use Rattle.vital_connections.specs.Objects.{Object, bits_of_all}
use Rattle.vital_instances.specs.declared.instance.Instance.{Instance}
use Rattle.vital_nodes.specs.declared.unit.Units.{Units}
use Rattle.vital_netlist.specs.declared.bit.Bit.{Bit}
use Rattle.vital_netlist.specs.DesignObjects.{objects_at}

-- The bit of an instance, of a port or signal there, that is so far from the left.
abbrev pub bit : ℕ → (ℕ × ℕ) → Bit
bit instance b = record { instance = instance; object = b.0; offset = b.1 }

abbrev pub is_same : Bit → Bit → Bool
is_same a b = (a.instance == b.instance) && (a.object == b.object) && (a.offset == b.offset)

-- The bits of the instance of a number: by its ports and then its signals, and in each of these from left to right.
abbrev pub bits_of_instance : List Units → (ℕ × Instance) → List Bit
bits_of_instance files i = map (bit i.0) (bits_of_all (enumerate_from 0 (objects_at files i.1.entity)))

-- All bits of a design: by instances, and in each as above.
abbrev pub bits : List Units → List Instance → List Bit
bits files is = flat_map (bits_of_instance files) (enumerate_from 0 is)

-- The port or signal that a bit is of.
abbrev pub object_of : List Units → List Instance → Bit → Option Object
object_of files is b = option_and_then (λ i. slice_get (objects_at files i.entity) b.object) (slice_get is b.instance)
