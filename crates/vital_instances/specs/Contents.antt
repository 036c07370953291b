-- What the units of a library hold.
use Rattle.std.specs.Prelude.{◌≡◌, ℕ, ◌<◌, List, [], length, map, Option, Some, None, Result, Ok, Err}
use Rattle.std.specs.List.{slice_get}
use Rattle.std.specs.Option.{option_map, option_map_or}
use Rattle.vital_library.specs.Units.{entities}
use Rattle.vital_nodes.specs.declared.unit.Role.{Role}
use Rattle.vital_nodes.specs.declared.unit.Role.TheVariants as role
use Rattle.vital_nodes.specs.declared.unit.Units.{Units}
use Rattle.vital_instances.specs.declared.child.Child.{Child as Child'}
use Rattle.vital_instances.specs.declared.fault.Fault.{Fault as Fault'}
use Rattle.vital_instances.specs.Children.{Child, children}
use Rattle.vital_instances.specs.Children as of_children
use Rattle.vital_instances.specs.Faults.{Fault}
use Rattle.vital_instances.specs.Faults as of_faults
use Rattle.vital_instances.specs.Units.{Unit, net_unit_of, unit_at}

abbrev pub lent : Result (List Child') Fault' → Result (List Child) Fault
lent (Ok cs) = Ok (map of_children.lent cs)
lent (Err f) = Err (of_faults.lent f)

abbrev pub contents_as : List Units → Unit → Role → Result (List Child) Fault
contents_as files u role.Lib = Ok []
contents_as files u role.Net = children files (net_unit_of u)

-- The instances in a unit, or the first fault of a netlist unit. There are none in a cell.
abbrev pub contents : List Units → Unit → Result (List Child) Fault
contents files u = contents_as files u u.role

-- Those in the entity of a number, if it has an architecture.
abbrev pub contents_at : List Units → ℕ → Result (List Child) Fault
contents_at files n = option_map_or (contents files) (unit_at files n) (Ok [])

abbrev pub or_none : Result (List Child) Fault → List Child
or_none (Ok cs) = cs
or_none (Err f) = []

-- The instances in the entity of a number where it has no fault.
abbrev pub children_at : List Units → ℕ → List Child
children_at files n = or_none (contents_at files n)

-- These are the contents of the entities, one for each.
pub record HasContents (files : List Units) (known : List (Result (List Child') Fault')) : Type 0 where
  pub all : length known ≡ length (entities files)
  pub each : (n : ℕ) → n < length known → option_map lent (slice_get known n) ≡ Some (contents_at files n)

-- The fault, if there is one.
abbrev pub fault_in : Result (List Child) Fault → Option Fault
fault_in (Ok cs) = None
fault_in (Err f) = Some f
