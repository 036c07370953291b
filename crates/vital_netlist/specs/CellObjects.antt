-- The ports and internal signals of cells (IEEE 1076-1993, 12.6.1).
use Rattle.std.specs.Prelude.{List, ◌++◌, map, Option, Some, None}
use Rattle.std.specs.Option.{option_map}
use Rattle.vital_connections.specs.Objects.{Object}
use Rattle.vital_objects.specs.declared.package_value.PackageValue.{PackageValue}
use Rattle.vital_objects.specs.declared.port.Port.{Port as Port'}
use Rattle.vital_objects.specs.declared.signal.Signal.{Signal as Signal'}
use Rattle.vital_typed_cells.specs.declared.typed_cell.TypedCell.{TypedCell}
use Rattle.vital_structure.specs.Shapes.{Scalar}
use Rattle.vital_typed_cells.specs.PackageWorths.{level_in_packages}

-- Each port and each signal of a cell is one bit. The constants of packages have these values.
abbrev pub object_of_port : List (Option PackageValue) → Port' → Object
object_of_port vs p = record {
  name = p.name;
  place = p.place;
  mode = Some p.mode;
  shape = Scalar;
  is_resolved = p.is_resolved;
  default = option_map (level_in_packages vs) p.default;
}

abbrev pub object_of_internal : Signal' → Object
object_of_internal s = record {
  name = s.name;
  place = s.place;
  mode = None;
  shape = Scalar;
  is_resolved = s.is_resolved;
  default = Some s.initial;
}

abbrev pub objects_of_cell : TypedCell → List Object
objects_of_cell c = map (object_of_port c.packages) c.ports ++ map object_of_internal c.signals
