-- The signals of a design as they are put, one behind the other.
use Rattle.std.specs.Prelude.{◌≡◌, ⊤, ℕ, List, [], filter, Option, Some}
use Rattle.std.specs.List.{slice_get}
use Rattle.std.specs.Option.{option_and_then, option_map, option_map_or}
use Rattle.vital_base.specs.declared.place.Place.{Place}
use Rattle.vital_instances.specs.declared.instance.Instance.{Instance}
use Rattle.vital_nodes.specs.declared.unit.Units.{Units}
use Rattle.vital_netlist.specs.declared.bit.Bit.{Bit}
use Rattle.vital_netlist.specs.declared.signals.SignalsError.{SignalsError}
use Rattle.vital_netlist.specs.declared.signals.SignalsError.TheVariants as error
use Rattle.vital_netlist.specs.Bits.{bits_of_instance, object_of}
use Rattle.vital_netlist.specs.Nets.{is_own, most_signals}

-- The signals among the bits of an instance.
abbrev pub own_of : List Units → List Instance → (ℕ × Instance) → List Bit
own_of files is i = filter (is_own files is) (bits_of_instance files i)

-- Those of the instance of a number.
abbrev pub own_of_number : List Units → List Instance → ℕ → List Bit
own_of_number files is n = option_map_or (λ i. own_of files is (n, i)) (slice_get is n) []

-- The place of the port or signal that a bit is of.
abbrev pub place_of : List Units → List Instance → Option Bit → Option Place
place_of files is b = option_map (λ o. o.place) (option_and_then (object_of files is) b)

-- This is told where all these bits were to be put.
abbrev pub IsTold : List Units → List Instance → List Bit → SignalsError → Type 0
IsTold files is all (error.TooMany place) = place_of files is (slice_get all most_signals) ≡ Some place
IsTold files is all error.NoMemory = ⊤
