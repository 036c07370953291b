-- The limits that the text of a cell passes itself.
use Rattle.std.specs.Prelude.{true, List, [], ◌++◌, slice_get, Option, Some, None}
use Rattle.std.specs.List.{flat_map}
use Rattle.std.specs.Option.{option_map_or}
use Rattle.vital_limits.specs.declared.passed.CellLimit.TheVariants.{Ports}
use Rattle.vital_limits.specs.declared.passed.PassedLimit.{PassedLimit}
use Rattle.vital_limits.specs.NodeLimits.{if_passed, limits_of_node}
use Rattle.vital_names.specs.Sites.{Cell}
use Rattle.vital_nodes.specs.declared.decl.Iface.{Iface}
use Rattle.vital_nodes.specs.declared.unit.Arch.{Arch}
use Rattle.vital_nodes.specs.declared.unit.Unit.{Unit as Unit'}
use Rattle.vital_nodes.specs.declared.unit.Unit.TheVariants as unit
use Rattle.vital_nodes.specs.Walk.{nodes_of_unit}

abbrev pub limits_at : Option Iface → List PassedLimit
limits_at i = option_map_or (λ i. if_passed true Ports i.identifier.place) i []

-- There are at most 256 ports: the limit stands at the first that is one too many.
abbrev pub limits_of_ports : List Iface → List PassedLimit
limits_of_ports ports = limits_at (slice_get ports 256)

abbrev pub limits_of_unit : Unit' → List PassedLimit
limits_of_unit u = flat_map limits_of_node (nodes_of_unit u)

abbrev pub limits_of_arch : Option Arch → List PassedLimit
limits_of_arch None = []
limits_of_arch (Some a) = limits_of_unit (unit.Arch a)

-- The limits that a cell passes, but for those of constants of packages that it names.
abbrev pub own_limits : Cell → List PassedLimit
own_limits cell = limits_of_ports cell.entity.ports ++ limits_of_unit (unit.Entity cell.entity) ++ limits_of_arch cell.arch
